-- `tag::make_from_key` meets its contract: past the refusals of the key bytes the key is prepared, and holds the round keys of the definition.
-- Assumes nothing.
use mathlib.Core.Path.{sym, ◌∙◌}
use Rattle.fox_refusals.proofs.Laws.Refusals.{tagged, keyed-served}
use Rattle.fox_refusals.proofs.Laws.Reply.{number_not_zero}
use Rattle.fox_server_tag.proofs.ByPrepared.{make-prepared}
use Rattle.fox_server_tag.proofs.tag.make_from_key.Goals as goal

pub returns-in_err-p : goal.returns-in_err-p
returns-in_err-p c =
    let known = tagged _ _ _ _ _ _ (sym c.in_ok-for_tag.ensures) in
    absurd (number_not_zero c.in_err-p.field-0.0 (c.in_err-p.ensures.refusal ∙ keyed-served known.keyed))

pub returns : goal.returns
returns c =
    let a = c.args in
    let known = tagged _ _ _ _ _ _ (sym c.in_ok-for_tag.ensures) in
    make-prepared a.cipher a.rounds a.key.now a.message.now _ known.keyed c.in_ok-p.ensures c.make.ensures
