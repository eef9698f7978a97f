-- `answer::answer_block` meets its contract: the block is served or refused, and the lines for that case are written.
-- Assumes nothing.
use Rattle.std.proofs.Common.{◌≡◌, sym, ◌∙◌, arith, ℕ, List, ◌≤◌, length, take, replicate, length-take-le}
use Rattle.fox_refusals.specs.Answer.{number_of}
use Rattle.fox_refusals.proofs.Laws.Reply.{number_not_zero}
use Rattle.fox_text.specs.Ascii.{codes, ascii}
use Rattle.fox_text.proofs.Laws.Stores.{at-most}
use Rattle.fox_sheet.specs.Answer.{refusal_name, values_from, refusal}
use Rattle.fox_sheet.proofs.Laws.{refused-text, served-text}
use Rattle.fox_sheet_answer.proofs.answer.answer_block.Goals as goal

-- the part of the room that is passed
abbrev room : List ℕ
room = replicate 32 0

long : (block : List ℕ) → length block ≤ 32 → length (take (length block) room) ≡ length block
long block few = length-take-le (length block) room few

pub returns-in-Err : goal.returns-in-Err
unfolding codes ascii refusal_name refusal
returns-in-Err c =
    let a = c.args in
    let values = values_from a.sealing a.cipher a.rounds a.key.now a.block.now in
    let refusal_is : number_of c.in-Err.refusal ≡ refusal values = rw (long c.args.block.now c.requires.block) at c.in-Err.ensures.refusal in
    rw (refused-text values _ (c.number.ensures ∙ refusal_is) (λ z. number_not_zero _ (sym c.number.ensures ∙ z))) (at-most c.put_decimal_line.ensures (omega arith))

pub returns-in-Ok : goal.returns-in-Ok
unfolding refusal
returns-in-Ok c =
    let a = c.args in
    let values = values_from a.sealing a.cipher a.rounds a.key.now a.block.now in
    let none : refusal values ≡ 0 = sym (rw (long c.args.block.now c.requires.block) at c.in-Ok.ensures.refusal) in
    let block = rw (sym c.in-Ok.ensures.refusal) at c.in-Ok.ensures.output in
    rw (served-text values none, ← block) c.put_served.ensures
