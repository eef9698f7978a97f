-- `fox_station_session::start_in` meets its contract: the words hold the session that was started, or are all zeros where it was refused.
-- Assumes nothing.
use Rattle.std.proofs.Common.{refl, ap, ◌∙◌}
use Rattle.fox_refusals.specs.Handed.{answer}
use Rattle.fox_refusals.proofs.Laws.Reply.{number_not_zero}
use Rattle.fox_session.specs.Machine.{Machine}
use Rattle.fox_server_session_step.specs.Step.{machine_at}
use Rattle.fox_server_session.specs.declared.session.Session.{Session}
use Rattle.fox_station_session.specs.Sessions.{direction_word}
use Rattle.fox_station_session.proofs.Laws.Calls.{start-stored, start-refused}
use Rattle.fox_station_session.proofs.start_in.Goals as goal

pub returns-in-Ok : goal.returns-in-Ok
unfolding answer machine_at
returns-in-Ok c =
    let begun = c.in-Ok.ensures in
    let written = c.write_session.ensures in
    record {
      starts = start-stored begun.starts refl written.session;
      held = λ z. ap (λ (s : Session). s.key) written.session ∙ begun.key refl;
      direction = λ z. written.direction ∙ ap (λ (m : Machine). direction_word m.sealing) (begun.starts.served refl);
    }

pub returns-in-Err : goal.returns-in-Err
unfolding answer
returns-in-Err c =
    let begun = c.in-Err.ensures in
    let isnt = number_not_zero c.in-Err.refusal in
    let number = c.number.ensures in
    rw number (record { starts = start-refused begun.starts isnt; held = λ z. absurd (isnt z); direction = λ z. absurd (isnt z) })
