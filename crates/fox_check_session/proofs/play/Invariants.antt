-- `play` is safe and ends: each turn of the loop takes at least one byte of the text. The measure is what is left of it.
-- Assumes nothing.
use Rattle.std.proofs.Common.{length}
use Rattle.fox_check_session.proofs.play.Given as goal

abbrev pub invariant-loop-left : goal.invariant-loop-left
invariant-loop-left l = Unit {0}

abbrev pub decreases-loop-left : goal.decreases-loop-left
decreases-loop-left l = length l.left
