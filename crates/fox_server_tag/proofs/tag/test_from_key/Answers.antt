-- `tag::test_from_key` meets its contract: past the refusals of the key bytes the key is prepared, and holds the round keys of the definition.
-- Assumes nothing.
use Rattle.std.proofs.Common.{rules, Err}
use mathlib.Core.Path.{◌≡◌, refl, sym, ◌∙◌}
use Rattle.fox_key_schedule.specs.Schedule.{round_keys}
use Rattle.fox_refusals.proofs.Laws.Refusals.{tagged, keyed-served}
use Rattle.fox_refusals.proofs.Laws.Reply.{number_not_zero}
use Rattle.fox_tag.proofs.Laws.Answers.{test-refused}
use Rattle.fox_server_tag.proofs.ByPrepared.{test-prepared}
use Rattle.fox_server_tag.proofs.tag.test_from_key.Goals as goal

pub returns-in_err-for_tag : goal.returns-in_err-for_tag
returns-in_err-for_tag c =
    let a = c.args in
    let is : c.from_residual.result ≡ Err c.in_err-for_tag.field-0.0 = search rules in
    rw is (test-refused a.cipher a.rounds _ (round_keys a.cipher a.rounds a.key.now) a.message.now a.stored.now c.in_err-for_tag.ensures
    (number_not_zero c.in_err-for_tag.field-0.0) (refl, refl))

pub returns-in_err-p : goal.returns-in_err-p
returns-in_err-p c =
    let known = tagged _ _ _ _ _ _ (sym c.in_ok-for_tag.ensures) in
    absurd (number_not_zero c.in_err-p.field-0.0 (c.in_err-p.ensures.refusal ∙ keyed-served known.keyed))

pub returns : goal.returns
returns c =
    let a = c.args in
    let known = tagged _ _ _ _ _ _ (sym c.in_ok-for_tag.ensures) in
    test-prepared a.cipher a.rounds a.key.now a.message.now _ a.stored.now known.keyed c.in_ok-p.ensures c.test.ensures
