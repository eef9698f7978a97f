-- `part::turn_part` meets its contract: past the refusals the key's schedule gives the round keys of the definition, and what is written and answered is the
-- definition's block in hand.
-- Assumes nothing.
use Rattle.std.proofs.Common.{sym, refl, ap, ◌∙◌, arith}
use Rattle.fox_rounds.specs.Skeleton.{size}
use Rattle.fox_refusals.proofs.Laws.Refusals.{blocked}
use Rattle.fox_refusals.proofs.Laws.Reply.{served_answer, chosen}
use Rattle.fox_block.specs.Block.{bytes}
use Rattle.fox_card_block.specs.declared.rounds.Hold.{Hold}
use Rattle.fox_card_block.proofs.Laws.Part.{least-min, parted-size, parted-scheduled}
use Rattle.fox_card_block.proofs.part.turn_part.Goals as goal

pub of-s-requires : goal.of-s-requires
of-s-requires c = (blocked _ _ _ _ _ _ (sym c.in_ok-for_block.ensures)).keyed.key

pub read-state-requires : goal.read-state-requires
read-state-requires c = (blocked _ _ _ _ _ _ (sym c.in_ok-for_block.ensures)).block

pub overflow_cast-rounds : goal.overflow_cast-rounds
overflow_cast-rounds c = record { fits = omega (arith, (blocked _ _ _ _ _ _ (sym c.in_ok-for_block.ensures)).keyed.high) }

pub in_hand-first-requires : goal.in_hand-first-requires
in_hand-first-requires c = omega (arith, (blocked _ _ _ _ _ _ (sym c.in_ok-for_block.ensures)).keyed.low)

pub overflow_cast-min : goal.overflow_cast-min
overflow_cast-min c = record { fits = omega (arith, (blocked _ _ _ _ _ _ (sym c.in_ok-for_block.ensures)).keyed.high, c.min.ensures) }

pub overflow_cast-min-2 : goal.overflow_cast-min-2
overflow_cast-min-2 c = record { fits = omega (arith, (blocked _ _ _ _ _ _ (sym c.in_ok-for_block.ensures)).keyed.high, c.min-2.ensures) }

-- What the rounds give is the definition's block in hand.
pub write-requires : goal.write-requires
write-requires c =
    let a = c.args in
    let s = c.of-s.result in
    let known = blocked _ _ _ _ _ _ (sym c.in_ok-for_block.ensures) in
    let done = parted-scheduled a.sealing a.cipher a.rounds a.key.now s c.of-s.ensures a.from a.until a.reg a.block.now
    (c.min.ensures ∙ sym (least-min _ _)) (c.min-2.ensures ∙ sym (least-min _ _)) c.read-state.ensures c.in_hand-first.ensures c.rounds_on-done.ensures in
    known.output ∙ known.block ∙ sym (ap (λ (h : Hold). size h.state) done ∙ parted-size _ _ _ _ _ _ _ _)

pub returns : goal.returns
returns c =
    let a = c.args in
    let s = c.of-s.result in
    let zero = sym c.in_ok-for_block.ensures in
    let done = parted-scheduled a.sealing a.cipher a.rounds a.key.now s c.of-s.ensures a.from a.until a.reg a.block.now
    (c.min.ensures ∙ sym (least-min _ _)) (c.min-2.ensures ∙ sym (least-min _ _)) c.read-state.ensures c.in_hand-first.ensures c.rounds_on-done.ensures in
    record {
      reply = served_answer zero refl (c.write.ensures ∙ ap (λ (h : Hold). bytes h.state) done);
      handed = c.from.ensures.0 ∙ ap (λ (h : Hold). h.reg) done ∙ chosen _ _ _ zero;
    }
