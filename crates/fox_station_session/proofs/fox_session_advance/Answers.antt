-- `fox_session_advance` meets its contract: the count follows from the number.
-- Assumes nothing.
use Rattle.fox_station_session.proofs.Laws.Calls.{call-handed}
use Rattle.fox_station_session.proofs.fox_session_advance.Goals as goal

pub returns : goal.returns
returns c = call-handed c.advance_in.result c.number_in.ensures c.advance_in.ensures
