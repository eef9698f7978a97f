-- `scan::pass_scans` meets its contract. The loop's invariant: so many whole scans were passed over, and what is left of the file begins at the place.
-- Assumes nothing.
use Prim.Native.Nat.{◌≤◌}
use lib.ListN.{length, drop}
use Rattle.fox_run_file.proofs.Laws.Scan.{Passed}
use Rattle.fox_run_file_scan.proofs.scan.pass_scans.Given as goal

abbrev pub invariant-loop-number : goal.invariant-loop-number
invariant-loop-number l = Passed 65535 (drop l.from l.file) l.number (drop l.at l.file) × (l.from ≤ length l.file → l.at ≤ length l.file)
