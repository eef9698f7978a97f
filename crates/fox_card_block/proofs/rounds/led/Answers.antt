-- `rounds::led` meets its contract: nothing comes before round number 0.
-- Assumes nothing.
use Rattle.std.proofs.Common.{sym, ◌∙◌}
use Rattle.fox_card_block.proofs.Laws.Hold.{led-first, led-later}
use Rattle.fox_card_block.proofs.rounds.led.Goals as goal

pub returns-then-i-eq0 : goal.returns-then-i-eq0
returns-then-i-eq0 c = let a = c.args in sym (led-first a.sealing a.i a.y c.if-i-eq0.true)

pub returns-else-i-eq0 : goal.returns-else-i-eq0
returns-else-i-eq0 c = let a = c.args in c.between.ensures ∙ sym (led-later a.sealing a.i a.y c.if-i-eq0.false)
