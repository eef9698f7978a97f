-- `fox_station_file::fox_file_take_up` meets its contract: the words hold the place that taking up gave, or the one that no file has.
-- Assumes nothing.
use Rattle.fox_run_file.specs.Places.{no_place}
use Rattle.fox_station_file.specs.Files.{place_in}
use Rattle.fox_station_file.proofs.fox_file_take_up.Goals as goal

pub returns-in-Err : goal.returns-in-Err
unfolding place_in no_place
returns-in-Err c = rw c.number.ensures c.in-Err.ensures
