-- `fox_station_session::advance_in` meets its contract: the call is one on the session that the words hold, which stays as it is where the call is refused.
-- Assumes nothing.
use Rattle.std.proofs.Common.{◌≡◌, Err, refl, sym, ap, ◌∙◌, rules}
use Rattle.fox_refusals.proofs.Laws.Reply.{number_not_zero}
use Rattle.fox_server_session.specs.Session.{session_at}
use Rattle.fox_station_session.specs.Sessions.{session_in}
use Rattle.fox_station_session.proofs.Laws.Calls.{call-in-words}
use Rattle.fox_station_session.proofs.advance_in.Goals as goal

pub returns-in_err-count : goal.returns-in_err-count
returns-in_err-count c =
    let words = c.args.words.now in
    let refusal = c.in_err-count.field-0.0 in
    let told = c.in_err-count.ensures in
    let is : c.from_residual.result ≡ Err refusal = search rules in
    let stays = sym c.here_in-here.ensures ∙ sym (told.refused (number_not_zero refusal)).0 in
    rw is (call-in-words words c.basis_in.ensures c.here_in-here.ensures told (ap (session_at (session_in words)) stays) (λ again. refl))

pub returns : goal.returns
returns c =
    call-in-words c.args.words.now c.basis_in.ensures c.here_in-here.ensures c.in_ok-count.ensures c.write_here.ensures.session
    (λ isnt. absurd (isnt refl))
