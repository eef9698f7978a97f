-- `stretch::one_block` meets its contract: the block of key stream is the sealed counter block that byte n is in.
-- Assumes nothing.
use mathlib.Core.Bool.{true}
use mathlib.Core.Path.{◌≡◌, sym, ap, ◌∙◌, subst}
use Prim.Native.Nat.{ℕ, ◌%◌, ◌<◌}
use native.Mathlib.Nat.{mod-lt}
use Rattle.fox_rounds.specs.Skeleton.{size, turned}
use Rattle.fox_server_rounds.specs.Keys.{keys_by}
use Rattle.fox_block.specs.Block.{bytes}
use Rattle.fox_run.specs.Run.{streamed}
use Rattle.fox_run.specs.Parts.{Part}
use Rattle.fox_run.specs.States.{sealed, stream}
use Rattle.fox_run.proofs.Laws.Streams.{length-sealed, size-pos}
use Rattle.fox_run.proofs.Laws.Parts.{part-made}
use Rattle.fox_server_run.proofs.stretch.one_block.Goals as goal

pub nonzero_div-n : goal.nonzero_div-n
nonzero_div-n g c = subst (λ (n : ℕ). 0 < n) (sym c.size-size.ensures) (size-pos (g.B.Block.state c.args.x))

pub nonzero_rem-n : goal.nonzero_rem-n
nonzero_rem-n g c = subst (λ (n : ℕ). 0 < n) (sym c.size-size.ensures) (size-pos (g.B.Block.state c.args.x))

pub xor_part-requires : goal.xor_part-requires
xor_part-requires g c =
    let n = c.args.n in
    let m = c.size-size.result in
    let pos : 0 < m = subst (λ (k : ℕ). 0 < k) (sym c.size-size.ensures) (size-pos (g.B.Block.state c.args.x)) in (
      subst (λ (k : ℕ). n % m < k) (c.size-size.ensures ∙ g.met.B.Cipher.sized c.args.x ∙ sym (g.met.B.Cipher.sized c.turn-sealed.result)) (mod-lt n pos),
      c.requires.out,
    )

pub returns : goal.returns
unfolding sealed stream
returns g c =
    let a = c.args in
    let e = a.engine.now in
    let rks = keys_by g.B.Tabled.key_in e.keys.now e.rounds in
    let x = g.B.Block.state a.x in
    let m = c.size-size.result in
    let is : size x ≡ m = sym c.size-size.ensures in
    subst (λ (k : ℕ). Part (streamed k (sealed rks x)) a.n a.input.now a.out.now c.xor_part.new.out c.xor_part.result) c.size-size.ensures
    (part-made m (sealed rks x) (subst (λ (k : ℕ). 0 < k) is (size-pos x)) (λ i. length-sealed rks x i ∙ is) a.n
    (ap bytes (c.turn-sealed.ensures ∙ ap (turned true rks) c.counted-block.ensures)) c.xor_part.ensures)
