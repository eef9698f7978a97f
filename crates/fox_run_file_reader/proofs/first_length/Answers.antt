-- `first_length` meets its contract: a refused file has the end alone.
-- Assumes nothing.
use mathlib.Core.Path.{sym}
use Rattle.fox_refusals.proofs.Laws.Reply.{number_not_zero}
use Rattle.fox_run_file.proofs.Calls.{refused-ended}
use Rattle.fox_run_file_reader.proofs.first_length.Goals as goal

pub returns-in-Err : goal.returns-in-Err
returns-in-Err c =
    let takes = c.in-Err.ensures.taken in
    record { taken = _; takes = takes; next = sym (refused-ended _ _ _ _ _ takes (number_not_zero _) c.well_formed.1.0.0) }
