-- `verdict::differ`: whenever the loop goes on, no bit was seen to differ exactly where the bytes so far are the same.
-- Assumes nothing.
use Rattle.std.proofs.Common.{◌≡◌, ◌≤◌, length, take}
use lib.Dec.{eqb}
use Rattle.fox_refusals.specs.Refusals.{same}
use Rattle.fox_engine_tag.proofs.verdict.differ.Given as goal

abbrev pub invariant-loop-r : goal.invariant-loop-r
invariant-loop-r l =
    let i = length l.yielded in
    (i ≤ length l.right) × (eqb l.bits 0 ≡ same (take i l.right) (take i l.stored))
