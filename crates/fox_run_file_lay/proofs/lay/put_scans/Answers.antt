-- `place::put_scans` meets its contract: whenever the loop's test is reached, the text of the scans so far is at the front, and the bytes that are left give
-- the rest of it.
-- Assumes nothing.
use mathlib.Core.Path.{refl}
use native.Mathlib.Omega.{arith}
use Rattle.fox_run_file_lay.proofs.Laws.Scans.{onward-first, onward-room, onward-next, onward-last}
use borrow.Author.Rules.{rules}
use Rattle.fox_run_file_lay.proofs.lay.put_scans.Goals as goal

pub loop-i-init : goal.loop-i-init
loop-i-init c = (omega arith, refl, refl, onward-first c.requires)

pub put_scan-to-requires : goal.put_scan-to-requires
put_scan-to-requires c =
    onward-room c.requires c.loop-i.invariant.3 c.loop-i.invariant.2 (search rules)

pub overflow_add-from : goal.overflow_add-from
overflow_add-from c =
    let room = onward-room c.requires c.loop-i.invariant.3 c.loop-i.invariant.2 (search rules) in
    record { fits = omega (arith, room.fits) }

pub loop-i-preserved : goal.loop-i-preserved
loop-i-preserved c =
    let scan = c.put_scan-to in
    (search rules, refl, omega arith, onward-next c.requires c.loop-i.invariant.3 c.loop-i.invariant.2 (search rules) scan.ensures)

pub returns : goal.returns
returns c =
    onward-last c.requires c.loop-i.invariant.3 c.loop-i.invariant.2 (search rules)
