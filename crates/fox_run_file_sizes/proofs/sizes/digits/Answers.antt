-- `sizes::digits` meets its contract: its limits are the powers of ten.
-- Assumes nothing.
use mathlib.Core.Path.{sym}
use native.Mathlib.Omega.{arith}
use Rattle.fox_run_file.proofs.Laws.Sizes.{one-digit, digits-by-power}
use Rattle.fox_run_file_sizes.proofs.sizes.digits.Goals as goal

pub returns-in-0-to-9 : goal.returns-in-0-to-9
returns-in-0-to-9 c = (sym (one-digit 4 c.args.n (omega arith)), omega arith)

pub returns-in-10-to-99 : goal.returns-in-10-to-99
returns-in-10-to-99 c = (sym (digits-by-power 1 5 c.args.n (omega arith) (omega arith) (omega arith)), omega arith)

pub returns-in-100-to-999 : goal.returns-in-100-to-999
returns-in-100-to-999 c = (sym (digits-by-power 2 5 c.args.n (omega arith) (omega arith) (omega arith)), omega arith)

pub returns-in-1000-to-9999 : goal.returns-in-1000-to-9999
returns-in-1000-to-9999 c = (sym (digits-by-power 3 5 c.args.n (omega arith) (omega arith) (omega arith)), omega arith)

pub returns-in_default : goal.returns-in_default
returns-in_default c = (sym (digits-by-power 4 5 c.args.n (omega arith) (omega arith) (omega arith)), omega arith)
