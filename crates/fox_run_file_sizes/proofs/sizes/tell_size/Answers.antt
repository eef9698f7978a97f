-- `sizes::tell_size` meets its contract: past the key's tests cipher and rounds have at most five digits.
-- Assumes nothing.
use mathlib.Core.Path.{sym}
use Rattle.fox_refusals.proofs.Laws.Refusals.{keyed}
use Rattle.fox_run_file.proofs.Laws.Refusals.{few-digits}
use Rattle.fox_run_file_sizes.proofs.sizes.tell_size.Goals as goal

pub file_size-requires : goal.file_size-requires
file_size-requires c = few-digits (keyed _ _ _ (sym c.in_ok-for_key.ensures))
