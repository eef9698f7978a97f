-- `part::in_hand` meets its contract: for the first round it is the schedule's first value, and for a later one a number modulo 2 to the 24.
-- Assumes nothing.
use Rattle.std.proofs.Common.{sym, ◌∙◌}
use Rattle.fox_card_block.proofs.Laws.Part.{in_hand-first, in_hand-later}
use Rattle.fox_card_block.proofs.part.in_hand.Goals as goal

pub returns-then-from-eq0 : goal.returns-then-from-eq0
returns-then-from-eq0 c = let a = c.args in c.first.ensures.here ∙ sym (in_hand-first a.sealing _ a.rounds a.from a.reg c.if-from-eq0.true)

pub returns-else-from-eq0 : goal.returns-else-from-eq0
returns-else-from-eq0 c = let a = c.args in c.of.ensures ∙ sym (in_hand-later a.sealing _ a.rounds a.from a.reg c.if-from-eq0.false)
