-- `places::pass_over` meets its contract: it goes to the place after the scan that was found, or stays.
-- Assumes nothing.
use mathlib.Core.Path.{◌∙◌}
use Rattle.fox_run_file.specs.Places.{passed_over}
use Rattle.fox_run_file_read.proofs.Laws.Found.{moved, movable}
use Rattle.fox_run_file_read.proofs.places.pass_over.Goals as goal

pub after-requires : goal.after-requires
after-requires c = movable c.in-Some.ensures c.well_formed.0.0

pub returns-in-Some : goal.returns-in-Some
unfolding passed_over
returns-in-Some c = rw c.in-Some.ensures.there (c.after.ensures ∙ moved c.in-Some.ensures)

pub returns-in-None : goal.returns-in-None
unfolding passed_over
returns-in-None c = rw c.in-None.ensures
