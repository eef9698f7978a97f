-- `Session::move_to` meets its contract: it is the move on the session's parts, and the 510 words of the key are all of them.
-- Assumes nothing.
use Rattle.std.proofs.Common.{refl, arith}
use lib.Seq.{take_all}
use Rattle.fox_session.specs.Machine.{Move}
use Rattle.fox_server_session.proofs.Laws.Sessions.{in-session}
use Rattle.fox_server_session.proofs.session.Session.move_to.Goals as goal

pub returns : goal.returns
returns c =
    let a = c.args in
    let s = a.self.now in
    record { follows = in-session s (Move a.to) c.basis.ensures (take_all 510 s.key.keys (omega arith)) c.move_to.ensures; stays = refl }
