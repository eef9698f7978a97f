-- `four_blocks::xor_four` meets its contract: two blocks and the next two, XORed one after the other, each as the block that it is.
-- Assumes nothing.
use mathlib.Core.Path.{◌≡◌, sym, ap, ◌∙◌}
use mathlib.Core.List.{◌++◌}
use Prim.Native.Nat.{ℕ, ◌+◌, ◌*◌, ◌-◌, ◌≤◌}
use native.Mathlib.Omega.{arith}
use borrow.Rule.Slice.PartMut.{mid_of}
use lib.ListN.{length, drop, length-append}
use Rattle.fox_layers.specs.Words.{xor_each}
use Rattle.fox_refusals.specs.Refusals.{block_size}
use Rattle.fox_block.specs.Block.{bytes}
use Rattle.fox_block.proofs.Laws.Block.{length-bytes}
use Rattle.fox_run.proofs.Laws.FourBlocks.{xored_to-two}
use Rattle.fox_server_run_four.proofs.four_blocks.xor_four.Goals as goal

pub returns : goal.returns
returns g c =
    let a = c.args in
    let input = a.input.now in
    let now = c.xor_two.new.out in
    let state = g.B.Block.state in
    let p = state c.narrowed-p.result in
    let q = state c.narrowed-q.result in
    let u = state c.narrowed-u.result in
    let v = state c.narrowed-v.result in
    let B = block_size g.B.Cipher.CIPHER in
    let half = 2 * c.size-half.result in
    let size : c.size-half.result ≡ B = c.size-half.ensures ∙ g.met.B.Cipher.sized c.narrowed-p.result in
    let here : 2 * B ≡ half = omega (arith, size) in
    let wide : half ≤ length input = omega (arith, size, c.requires.input) in
    let both : half + half ≡ 4 * B = omega (arith, size) in
    let long : length (bytes p ++ bytes q) ≡ half =
    length-append (bytes p) (bytes q)
    ∙ omega (arith, size, length-bytes p, length-bytes q, g.met.B.Cipher.sized c.narrowed-p.result, g.met.B.Cipher.sized c.narrowed-q.result) in
    xored_to-two half (bytes p ++ bytes q) (bytes u ++ bytes v) input a.out.now now c.xor_two-2.new.out long wide
    (c.xor_two.ensures ∙ ap (λ (m : ℕ). xor_each (bytes p ++ bytes q) input ++ drop m a.out.now) here)
    (c.xor_two-2.ensures
    ∙ ap (λ (m : ℕ). xor_each (bytes u ++ bytes v) (mid_of half (length input - half) input) ++ drop m (mid_of half (length now - half) now)) here)
    ∙ ap (λ (m : ℕ). xor_each ((bytes p ++ bytes q) ++ (bytes u ++ bytes v)) input ++ drop m a.out.now) both
    ∙ (λ i. xor_each ((bytes (state (c.narrowed-p.ensures i)) ++ bytes (state (c.narrowed-q.ensures i))) ++ (bytes (state (c.narrowed-u.ensures i))
    ++ bytes (state (c.narrowed-v.ensures i)))) input ++ drop (4 * B) a.out.now)
