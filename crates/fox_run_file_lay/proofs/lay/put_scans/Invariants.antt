-- `place::put_scans` meets its contract: whenever the loop's test is reached, the text of the scans so far is at the front, and the bytes that are left give
-- the rest of it.
-- Assumes nothing.
use mathlib.Core.Path.{◌≡◌}
use Prim.Native.Nat.{◌≤◌}
use lib.ListN.{length}
use Rattle.fox_run_file_lay.proofs.Laws.Scans.{Onward}
use Rattle.fox_run_file_lay.proofs.lay.put_scans.Given as goal

abbrev pub invariant-loop-i : goal.invariant-loop-i
invariant-loop-i l =
    (l.i ≤ l.i-end) × (l.i-end ≡ length l.sizes) × (length l.out ≡ length l.initial.out) × Onward l.at l.src l.sizes l.initial.out l.to l.from l.i l.out
