-- `tag::test` meets its contract: past the refusals the stored tag is compared with the tag by the round keys that the prepared key holds.
-- Assumes nothing.
use Rattle.std.proofs.Common.{rules, Err}
use mathlib.Core.Path.{◌≡◌, refl, sym, ◌∙◌}
use native.Mathlib.Omega.{arith}
use Rattle.fox_refusals.proofs.Laws.Refusals.{tagged}
use Rattle.fox_refusals.proofs.Laws.Reply.{number_not_zero}
use Rattle.fox_server_key.specs.Prepared.{round_keys_in}
use Rattle.fox_tag.proofs.Laws.Answers.{tag-bytes, tag-size, test-refused, test_compared}
use Rattle.fox_server_tag.proofs.tag.test.Goals as goal

pub returns-in_err-for_tag : goal.returns-in_err-for_tag
returns-in_err-for_tag c =
    let a = c.args in
    let is : c.from_residual.result ≡ Err c.in_err-for_tag.field-0.0 = search rules in
    rw is (test-refused a.p.cipher a.p.rounds _ (round_keys_in a.p) a.message.now a.stored.now c.in_err-for_tag.ensures
    (number_not_zero c.in_err-for_tag.field-0.0) (refl, refl))

pub tag-y-requires : goal.tag-y-requires
tag-y-requires c =
    let known = (tagged _ _ _ _ _ _ (sym c.in_ok-for_tag.ensures)).keyed in
    (known.cipher, omega (arith, known.low), known.high)

pub verdict-requires : goal.verdict-requires
verdict-requires c = (tagged _ _ _ _ _ _ (sym c.in_ok-for_tag.ensures)).tag ∙ sym (tag-size _ _ _ c.tag-y.ensures)

pub returns : goal.returns
unfolding round_keys_in
returns c =
    let a = c.args in
    let known = tagged _ _ _ _ _ _ (sym c.in_ok-for_tag.ensures) in
    test_compared a.p.cipher a.p.rounds _ (round_keys_in a.p) a.message.now a.stored.now known
    (tag-bytes a.p.cipher (round_keys_in a.p) a.message.now c.tag-y.ensures) c.verdict.ensures
