-- `fox_probe_part` meets its contract: refusal number and register are parts of the number that is returned.
-- Assumes nothing.
use Rattle.std.proofs.Common.{◌≡◌, ℕ, ◌+◌, ◌*◌, ◌/◌, ◌%◌, ◌^◌, ◌<◌, List, length, ◌∙◌, arith, rules}
use Rattle.fox_refusals.specs.Refusals.{Refusal}
use Rattle.fox_refusals.proofs.Laws.Reply.{handed-reply}
use Rattle.fox_card_block.specs.Part.{PartAnswer, HandsBack}
use Rattle.fox_card_block.specs.declared.rounds.Hold.{Hold}
use Rattle.fox_check_probe.specs.Unpacked.{asks_to_seal, unpacked}
use Rattle.fox_check_probe.proofs.fox_probe_part.Goals as goal

unpacks : {rs : List Refusal} {h : Hold} {before after : List ℕ} {p : PartAnswer} (x : ℕ) → x ≡ p.answer.refusal * 2 ^ 32 + p.reg → p.reg < 2 ^ 32
    → HandsBack rs h before after p → HandsBack rs h before after (unpacked x (length before))
unfolding unpacked
unpacks {p = p} x is small back =
    let number : x / 2 ^ 32 ≡ p.answer.refusal = omega arith in
    let reg : x % 2 ^ 32 ≡ p.reg = omega arith in
    record {
      reply = handed-reply (record { refusal = number ∙ back.reply.refusal; output = back.reply.output });
      handed = reg ∙ back.handed;
    }

pub returns-in-Ok : goal.returns-in-Ok
unfolding asks_to_seal
returns-in-Ok c = unpacks _ (omega arith) (search rules) c.in-Ok.ensures

pub returns-in-Err : goal.returns-in-Err
unfolding asks_to_seal
returns-in-Err c = unpacks _ (omega arith) (search rules) c.in-Err.ensures
