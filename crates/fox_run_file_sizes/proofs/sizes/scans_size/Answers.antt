-- `sizes::scans_size` meets its contract: each scan's length is added to the sums of those before it, and one that is too long ends it.
-- Assumes nothing.
use mathlib.Core.Path.{refl}
use Prim.Native.Nat.{◌+◌}
use native.Mathlib.Omega.{arith}
use borrow.Author.Rules.{rules}
use lib.ListN.{get_or}
use Rattle.fox_run_file.proofs.Laws.Sizes.{scan-few}
use Rattle.fox_run_file_sizes.proofs.Laws.Sums.{too_long, one_more, all-added}
use Rattle.fox_run_file_sizes.proofs.sizes.scans_size.Goals as goal

pub loop-i-init : goal.loop-i-init
loop-i-init c =
    record { within = omega arith; sum-few = omega arith; size_few = omega arith; sum = omega arith; size = omega arith; fit = refl }

pub returns-then-n-gt65536 : goal.returns-then-n-gt65536
returns-then-n-gt65536 c = too_long c.loop-i.invariant (search rules) (search rules)

pub overflow_add-size : goal.overflow_add-size
overflow_add-size c =
    omega (arith, c.loop-i.invariant.size_few, scan-few (c.loop-i.i + 1) (get_or c.args.sizes.now c.loop-i.i 0) (search rules))

pub loop-i-preserved : goal.loop-i-preserved
loop-i-preserved c = rw c.scan_size-size.ensures (one_more c.loop-i.invariant (search rules) (search rules))

pub returns : goal.returns
returns c = all-added c.loop-i.invariant c.requires (search rules)
