-- `rounds::round_on` meets its contract: the round takes the round key at the register's value, and hands on the register that the round key hands on.
-- Assumes nothing.
use Rattle.fox_card_block.proofs.Laws.Hold.{round_on-made}
use Rattle.fox_card_block.proofs.rounds.round_on.Goals as goal

pub returns : goal.returns
returns c =
    let a = c.args in
    round_on-made a.sealing a.s a.i a.h c.round_key-k.ensures c.led-y.ensures c.round.ensures c.onward.ensures
