-- `sizes::scans_size` meets its contract. The loop's invariant: the sums are those of the lengths so far, none of which is too long.
-- Assumes nothing.
use Rattle.fox_run_file_sizes.proofs.Laws.Sums.{SoFar}
use Rattle.fox_run_file_sizes.proofs.sizes.scans_size.Given as goal

abbrev pub invariant-loop-i : goal.invariant-loop-i
invariant-loop-i l = SoFar l.sizes l.i l.total l.size
