-- `block::turn_from_key` meets its contract: past the refusals of the key bytes the key is prepared, and holds the round keys of the definition.
-- Assumes nothing.
use mathlib.Core.Path.{sym, ◌∙◌}
use Rattle.fox_refusals.proofs.Laws.Refusals.{blocked, keyed-served}
use Rattle.fox_refusals.proofs.Laws.Reply.{number_not_zero}
use Rattle.fox_server_block.proofs.ByPrepared.{turn-prepared}
use Rattle.fox_server_block.proofs.block.turn_from_key.Goals as goal

pub returns-in_err-p : goal.returns-in_err-p
returns-in_err-p c =
    let known = blocked _ _ _ _ _ _ (sym c.in_ok-for_block.ensures) in
    absurd (number_not_zero c.in_err-p.field-0.0 (c.in_err-p.ensures.refusal ∙ keyed-served known.keyed))

pub returns : goal.returns
returns c =
    let a = c.args in
    let known = blocked _ _ _ _ _ _ (sym c.in_ok-for_block.ensures) in
    turn-prepared a.sealing a.cipher a.rounds a.key.now a.block.now _ known.keyed c.in_ok-p.ensures c.turn.ensures
