-- `places::next_at` meets its contract: it tells what was found at the place.
-- Assumes nothing.
use Rattle.fox_run_file.specs.Promise.{next_at}
use Rattle.fox_run_file_read.proofs.places.next_at.Goals as goal

pub returns-in_err-scan : goal.returns-in_err-scan
unfolding next_at
returns-in_err-scan c = rw (c.from_residual.ensures, c.in_err-scan.ensures)

pub returns : goal.returns
unfolding next_at
returns c = rw (c.in_ok-scan.ensures.there, c.in_ok-scan.ensures.size)
