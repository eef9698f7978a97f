-- `sizes::file_size` meets its contract: each limit is tested in turn, and past them the lengths of header, scans and the last two lines make that of the
-- file.
-- Assumes nothing.
use native.Mathlib.Omega.{arith}
use borrow.Author.Rules.{rules}
use Rattle.fox_run_file.proofs.Laws.Rest.{close-small}
use Rattle.fox_run_file.proofs.Laws.Sizes.{header-few, many-past, sized_past}
use Rattle.fox_run_file_sizes.proofs.Laws.Sums.{sums-past, sums-large, sums-in}
use Rattle.fox_run_file_sizes.proofs.sizes.file_size.Goals as goal

pub returns-then-number-gt65535 : goal.returns-then-number-gt65535
returns-then-number-gt65535 c = sized_past _ _ _ (many-past c.args.cipher c.args.rounds _ (search rules))

pub returns-in_err-scans : goal.returns-in_err-scans
returns-in_err-scans c = rw c.from_residual.ensures (sums-past c.args.cipher c.args.rounds c.in_err-scans.ensures)

pub overflow_add-before : goal.overflow_add-before
overflow_add-before c = omega (arith, c.in_ok-scans.ensures.few, header-few c.args.cipher c.args.rounds)

pub overflow_add-before-2 : goal.overflow_add-before-2
overflow_add-before-2 c = omega (arith, c.in_ok-scans.ensures.few, header-few c.args.cipher c.args.rounds)

pub overflow_add-before-3 : goal.overflow_add-before-3
overflow_add-before-3 c = omega (arith, c.in_ok-scans.ensures.few, header-few c.args.cipher c.args.rounds)

pub returns-then-before-gt1073741824 : goal.returns-then-before-gt1073741824
returns-then-before-gt1073741824 c =
    sums-large c.in_ok-scans.ensures _ _ c.header_size-header.ensures c.digits.ensures.0 (search rules)

pub overflow_add-size : goal.overflow_add-size
overflow_add-size c = omega (arith, close-small c.args.cipher)

pub returns : goal.returns
returns c =
    sums-in c.in_ok-scans.ensures _ _ c.header_size-header.ensures c.digits.ensures.0 (search rules) (search rules) c.close_size.ensures
