-- `Session::advance` meets its contract: it is the advance on the session's parts, and the 510 words of the key are all of them.
-- Assumes nothing.
use Rattle.std.proofs.Common.{refl, arith}
use lib.Seq.{take_all}
use Rattle.fox_session.specs.Machine.{Advance}
use Rattle.fox_server_session.proofs.Laws.Sessions.{in-session}
use Rattle.fox_server_session.proofs.session.Session.advance.Goals as goal

pub returns : goal.returns
returns c =
    let a = c.args in
    let s = a.self.now in
    record {
      follows = in-session s (Advance a.input.now a.out.now) c.basis.ensures (take_all 510 s.key.keys (omega arith)) c.advance.ensures;
      stays = refl;
    }
