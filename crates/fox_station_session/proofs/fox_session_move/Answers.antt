-- `fox_session_move` meets its contract: the count follows from the number.
-- Assumes nothing.
use Rattle.fox_station_session.proofs.Laws.Calls.{call-handed}
use Rattle.fox_station_session.proofs.fox_session_move.Goals as goal

pub returns : goal.returns
returns c = call-handed c.move_in.result c.number_in.ensures c.move_in.ensures
