-- `four_blocks::xor_two` meets its contract: two blocks XORed one after the other are one XOR with their bytes joined.
-- Assumes nothing.
use mathlib.Core.Path.{◌≡◌, sym, ap, ◌∙◌}
use mathlib.Core.List.{◌++◌}
use Prim.Native.Nat.{ℕ, ◌+◌, ◌*◌, ◌-◌, ◌≤◌}
use native.Mathlib.Omega.{arith}
use borrow.Rule.Slice.PartMut.{mid_of}
use lib.ListN.{length, drop}
use Rattle.fox_layers.specs.Words.{xor_each}
use Rattle.fox_refusals.specs.Refusals.{block_size}
use Rattle.fox_block.specs.Block.{bytes}
use Rattle.fox_block.proofs.Laws.Block.{length-bytes}
use Rattle.fox_run.proofs.Laws.FourBlocks.{xored_to-two}
use Rattle.fox_server_run_four.proofs.four_blocks.xor_two.Goals as goal

pub returns : goal.returns
returns g c =
    let a = c.args in
    let input = a.input.now in
    let now = c.xor_whole.new.out in
    let x = g.B.Block.state a.x in
    let y = g.B.Block.state a.y in
    let n = c.size-size.result in
    let size : n ≡ block_size g.B.Cipher.CIPHER = c.size-size.ensures ∙ g.met.B.Cipher.sized a.x in
    let wide : n ≤ length input = omega (arith, size, c.requires.input) in
    let both : n + n ≡ 2 * block_size g.B.Cipher.CIPHER = omega (arith, size) in
    xored_to-two n (bytes x) (bytes y) input a.out.now now c.xor_whole-2.new.out (length-bytes x ∙ sym c.size-size.ensures) wide
    (c.xor_whole.ensures ∙ ap (λ (m : ℕ). xor_each (bytes x) input ++ drop m a.out.now) (sym c.size-size.ensures))
    (c.xor_whole-2.ensures
    ∙ ap (λ (m : ℕ). xor_each (bytes y) (mid_of n (length input - n) input) ++ drop m (mid_of n (length now - n) now))
    (g.met.B.Cipher.sized a.y ∙ sym size))
    ∙ ap (λ (m : ℕ). xor_each (bytes x ++ bytes y) input ++ drop m a.out.now) both
