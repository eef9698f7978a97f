-- `sizes::header_size` meets its contract: 36 bytes of names and line feeds, and the values.
-- Assumes nothing.
use native.Mathlib.Omega.{arith}
use Rattle.fox_run_file.proofs.Laws.Lines.{block-small}
use Rattle.fox_run_file.proofs.Laws.Sizes.{header-line-sizes}
use Rattle.fox_run_file_sizes.proofs.sizes.header_size.Goals as goal

pub overflow_mul-result : goal.overflow_mul-result
overflow_mul-result c = omega (arith, block-small c.args.cipher)

pub overflow_add-result-3 : goal.overflow_add-result-3
overflow_add-result-3 c = omega (arith, block-small c.args.cipher)

pub returns : goal.returns
returns c = omega (arith, header-line-sizes c.args.cipher c.args.rounds)
