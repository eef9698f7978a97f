-- `scan::pass_scans` meets its contract: each scan that is found is one more that was passed over, and where none is found, or 65,535 were, it is the last.
-- Assumes nothing.
use Prim.Native.Nat.{◌≤◌}
use native.Mathlib.Omega.{arith}
use lib.ListN.{length-drop}
use borrow.Author.Rules.{rules}
use Rattle.fox_run_file.proofs.Laws.Scan.{none-found, found-is, passed-one, passed-last, passed-all, after-found}
use Rattle.fox_run_file_scan.proofs.scan.pass_scans.Goals as goal

pub returns-in_default : goal.returns-in_default
returns-in_default c =
    let (number, rest) = passed-last c.loop-number.invariant.0 (none-found _ _ (rw c.rest.ensures at c.in_default.ensures)) in
    record { number = number; rest = rest; few = c.loop-number.invariant.0.few; within = c.loop-number.invariant.1 }

pub loop-number-preserved : goal.loop-number-preserved
loop-number-preserved c =
    let found = rw c.rest.ensures at c.in-Some.ensures in
    let file = c.args.file.now in
    let at = c.loop-number.at in
    let next = passed-one c.loop-number.invariant.0 (search rules) (found-is file at found) in
    (rw (after-found file at found) at next, λ h. omega (arith, found.ends, length-drop c.loop-number.at c.args.file.now))

pub returns : goal.returns
returns c =
    let all : 65535 ≤ c.loop-number.number = search rules in
    let (number, rest) = passed-all c.loop-number.invariant.0 all in
    record { number = omega arith; rest = rest; few = omega arith; within = c.loop-number.invariant.1 }
