-- `stretch::one_block` meets its contract: the block of key stream is the sealed counter block that byte n is in.
-- Assumes nothing.
use mathlib.Core.Bool.{true}
use mathlib.Core.Path.{sym, ap, ◌∙◌, subst}
use Prim.Native.Nat.{ℕ, ◌<◌}
use native.Mathlib.Nat.{mod-lt, div-le_self}
use native.Mathlib.Omega.{arith}
use Rattle.fox_rounds.specs.Skeleton.{size, turned}
use Rattle.fox_key_schedule.specs.Step.{round_keys_of}
use Rattle.fox_block.specs.Block.{bytes}
use Rattle.fox_block.proofs.Laws.Block.{turned-size}
use Rattle.fox_run.specs.Run.{streamed}
use Rattle.fox_run.specs.States.{sealed, stream}
use Rattle.fox_run.specs.Parts.{Part}
use Rattle.fox_run.proofs.Laws.Streams.{counted-size, length-sealed, size-pos}
use Rattle.fox_run.proofs.Laws.Parts.{part-made}
use borrow.Author.Rules.{rules}
use Rattle.fox_card_run.proofs.stretch.one_block.Goals as goal

pub nonzero_div-n : goal.nonzero_div-n
nonzero_div-n c = omega (arith, c.size-size.ensures, size-pos c.args.x)

pub overflow_cast-n : goal.overflow_cast-n
overflow_cast-n c = omega (arith, div-le_self c.args.n c.size-size.result, c.requires.1)

pub nonzero_rem-n : goal.nonzero_rem-n
nonzero_rem-n c = omega (arith, c.size-size.ensures, size-pos c.args.x)

pub xor_part-requires : goal.xor_part-requires
xor_part-requires c =
    let a = c.args in
    let pos : 0 < c.size-size.result = omega (arith, c.size-size.ensures, size-pos a.x) in
    let same = ap size c.turned-sealed.ensures ∙ turned-size _ _ _ ∙ ap size c.counted.ensures ∙ counted-size a.x _ in
    (omega (arith, mod-lt a.n pos, same, c.size-size.ensures), search rules)

pub returns : goal.returns
unfolding sealed stream
returns c =
    let a = c.args in
    let B = c.size-size.result in
    let rks = round_keys_of a.s a.rounds in
    let is = c.size-size.ensures in
    let pos : 0 < B = omega (arith, is, size-pos a.x) in
    subst (λ (b : ℕ). Part (streamed b (sealed rks a.x)) a.n a.input.now a.out.now c.xor_part.new.out c.xor_part.result) is
    (part-made B (sealed rks a.x) pos (λ i. length-sealed rks a.x i ∙ sym is) a.n
    (ap bytes (c.turned-sealed.ensures ∙ ap (turned true rks) c.counted.ensures)) c.xor_part.ensures)
