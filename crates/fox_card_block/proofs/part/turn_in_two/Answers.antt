-- `part::turn_in_two` meets its contract: where the first part is refused, so is the block; where it is served, both parts are the block.
-- Assumes nothing.
use Rattle.std.proofs.Common.{◌≡◌, Err, sym, refl, rules}
use Rattle.fox_refusals.proofs.Laws.Refusals.{blocked}
use Rattle.fox_refusals.proofs.Laws.Reply.{number_not_zero}
use Rattle.fox_block.specs.Block.{BlockOf}
use Rattle.fox_card_block.proofs.Parts.{two-refused, two-served}
use Rattle.fox_card_block.proofs.part.turn_in_two.Goals as goal

pub returns-in_err-reg : goal.returns-in_err-reg
returns-in_err-reg c =
    let a = c.args in
    let is : c.from_residual.result ≡ Err c.in_err-reg.field-0.0 = search rules in
    rw is (two-refused a.sealing a.cipher a.rounds a.key.now a.block.now a.stop a.out.now c.in_err-reg.ensures (number_not_zero _))

pub returns-in_err-turn_part : goal.returns-in_err-turn_part
returns-in_err-turn_part c =
    let a = c.args in
    let went = c.in_ok-reg.ensures in
    let size = (blocked _ _ _ _ _ _ (sym went.reply.refusal)).block in
    let block : BlockOf a.cipher a.block.now = record { size = size; bytes = λ i. (c.type_inv.block i).fits } in
    let is : c.from_residual-in_err-turn_part.result ≡ Err c.in_err-turn_part.field-0.0 = search rules in
    rw is (two-served a.sealing a.cipher a.rounds a.key.now a.block.now block a.stop went refl c.in_err-turn_part.ensures)

pub returns : goal.returns
returns c =
    let a = c.args in
    let went = c.in_ok-reg.ensures in
    let size = (blocked _ _ _ _ _ _ (sym went.reply.refusal)).block in
    let block : BlockOf a.cipher a.block.now = record { size = size; bytes = λ i. (c.type_inv.block i).fits } in
    rw c.turn_part-2.auto.out (two-served a.sealing a.cipher a.rounds a.key.now a.block.now block a.stop went refl c.in_ok-turn_part.ensures)
