-- `run_rows` is safe and ends: each turn of the loop takes at least one byte of the text, and counts one row. The measure is what is left of the text.
-- Assumes nothing.
use Prim.Native.Nat.{◌+◌, ◌≤◌}
use lib.ListN.{length}
use Rattle.fox_check_vectors.proofs.run_rows.Given as goal

abbrev pub invariant-loop-left : goal.invariant-loop-left
invariant-loop-left l = (l.rows + length l.left ≤ length l.text) × (l.differ ≤ l.rows) × (l.cut ≤ length l.text)

abbrev pub decreases-loop-left : goal.decreases-loop-left
decreases-loop-left l = length l.left
