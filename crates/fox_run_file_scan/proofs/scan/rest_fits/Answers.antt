-- `scan::rest_fits` meets its contract: the file's length settles the limit, and the end is looked for where the last whole scan ends.
-- Assumes nothing.
use mathlib.Core.Path.{sym, ◌∙◌}
use native.Mathlib.Omega.{arith}
use Rattle.fox_run_file.proofs.Laws.Rest.{close-small, past-limit, within-limit}
use Rattle.fox_run_file_scan.proofs.scan.rest_fits.Goals as goal

pub overflow_add-close : goal.overflow_add-close
overflow_add-close c = omega (arith, close-small c.args.cipher)

pub returns-then-file-close : goal.returns-then-file-close
returns-then-file-close c = sym (past-limit _ _ _ (omega (arith, c.requires.1)))

pub returns : goal.returns
returns c =
    let all = rw c.requires.0 at c.pass_scans-scans.ensures in
    c.end_fits.ensures ∙ rw c.rest.ensures (within-limit _ _ _ (omega (arith, c.if-file-close.false, c.requires.1)) all)
