-- `tag::make_by` meets its contract: past the refusals what is written is the tag by the round keys that the prepared key holds.
-- Assumes nothing.
use mathlib.Core.Path.{sym, ◌∙◌}
use native.Mathlib.Omega.{arith}
use Rattle.fox_refusals.proofs.Laws.Refusals.{tagged}
use Rattle.fox_refusals.proofs.Laws.Reply.{served_answer}
use Rattle.fox_server_key.specs.Prepared.{round_keys_in}
use Rattle.fox_tag.proofs.Laws.Answers.{tag-bytes, tag-size}
use Rattle.fox_server_tag.proofs.tag.make_by.Goals as goal

pub tag-y-requires : goal.tag-y-requires
tag-y-requires c =
    let known = (tagged _ _ _ _ _ _ (sym c.in_ok-for_tag.ensures)).keyed in
    (known.cipher, omega (arith, known.low), known.high)

pub write-requires : goal.write-requires
write-requires c = (tagged _ _ _ _ _ _ (sym c.in_ok-for_tag.ensures)).tag ∙ sym (tag-size _ _ _ c.tag-y.ensures)

pub returns : goal.returns
unfolding round_keys_in
returns c =
    let a = c.args in
    served_answer (sym c.in_ok-for_tag.ensures) c.write.auto.out
    (c.write.ensures ∙ tag-bytes a.p.now.cipher (round_keys_in a.p.now) a.message.now c.tag-y.ensures)
