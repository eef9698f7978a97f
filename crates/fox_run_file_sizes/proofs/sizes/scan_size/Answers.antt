-- `sizes::scan_size` meets its contract: 14 bytes of names and line feeds, the two numbers, and the scan's bytes.
-- Assumes nothing.
use native.Mathlib.Omega.{arith}
use Rattle.fox_run_file.proofs.Laws.Sizes.{scan-line-sizes}
use Rattle.fox_run_file_sizes.proofs.sizes.scan_size.Goals as goal

pub returns : goal.returns
returns c = omega (arith, scan-line-sizes c.args.number c.args.size)
