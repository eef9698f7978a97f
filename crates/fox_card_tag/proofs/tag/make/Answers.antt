-- `tag::make` meets its contract: past the refusals what is written is the definition's tag.
-- Assumes nothing.
use Rattle.std.proofs.Common.{sym, arith}
use Rattle.fox_refusals.proofs.Laws.Refusals.{tagged}
use Rattle.fox_refusals.proofs.Laws.Reply.{served_answer}
use Rattle.fox_card_tag.proofs.tag.make.Goals as goal

pub overflow_cast-rounds : goal.overflow_cast-rounds
overflow_cast-rounds c = record { fits = omega (arith, (tagged _ _ _ _ _ _ (sym c.in_ok-for_tag.ensures)).keyed.high) }

pub tag-requires : goal.tag-requires
tag-requires c =
    let known = tagged _ _ _ _ _ _ (sym c.in_ok-for_tag.ensures) in
    (omega (arith, known.keyed.low), known.keyed.key, known.tag)

pub returns : goal.returns
returns c = served_answer (sym c.in_ok-for_tag.ensures) c.tag.auto.out c.tag.ensures
