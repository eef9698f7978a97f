-- `fox_station_file::fox_file_skip` meets its contract: the words hold the place after the one that they held.
-- Assumes nothing.
use mathlib.Core.Path.{ap, ◌∙◌}
use Rattle.fox_run_file.specs.Places.{passed_over}
use Rattle.fox_station_file.proofs.fox_file_skip.Goals as goal

pub returns : goal.returns
returns c = c.words_of.ensures ∙ c.pass_over.ensures ∙ ap (passed_over _) c.place_in-at.ensures
