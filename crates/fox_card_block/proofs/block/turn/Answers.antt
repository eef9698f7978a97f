-- `block::turn` meets its contract: all rounds of a block, from the first on, are the block.
-- Assumes nothing.
use Rattle.fox_card_block.proofs.Parts.{whole_part}
use Rattle.fox_card_block.proofs.block.turn.Goals as goal

pub returns : goal.returns
returns c =
    let a = c.args in
    rw c.turn_part.auto.out (whole_part a.sealing a.cipher a.rounds a.key.now 0 a.block.now c.in_ok-turn_part.ensures)
