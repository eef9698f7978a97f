-- `sizes::close_size` meets its contract: a name of six bytes, two digits for each byte of the tag, and a line feed.
-- Assumes nothing.
use native.Mathlib.Omega.{arith}
use Rattle.fox_run_file.proofs.Laws.Lines.{block-small}
use Rattle.fox_run_file.proofs.Laws.Sizes.{close-line-size}
use Rattle.fox_run_file_sizes.proofs.sizes.close_size.Goals as goal

pub overflow_mul-result : goal.overflow_mul-result
overflow_mul-result c = omega (arith, block-small c.args.cipher)

pub overflow_add-result : goal.overflow_add-result
overflow_add-result c = omega (arith, block-small c.args.cipher)

pub returns : goal.returns
returns c = omega (arith, close-line-size c.args.cipher)
