-- `fox_station_session::write_here` meets its contract: the words 515 to 517 are stored, and no other word changes.
-- Assumes nothing.
use Rattle.std.proofs.Common.{arith}
use Rattle.fox_station_session.proofs.Laws.Words.{here-stored}
use Rattle.fox_station_session.proofs.write_here.Goals as goal

pub returns-clause-session : goal.returns-clause-session
returns-clause-session c = here-stored _ _ (omega arith)
