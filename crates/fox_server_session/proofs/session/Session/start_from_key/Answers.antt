-- `Session::start_from_key` meets its contract: the refusals are those of the key bytes; past them the prepared key is that of the key, and holds the round
-- keys of the definition.
-- Assumes nothing.
use Rattle.std.proofs.Common.{◌≡◌, ℕ, List, Ok, Err, sym, ◌∙◌, rules}
use Rattle.fox_refusals.proofs.Laws.Refusals.{stretched, keyed-served}
use Rattle.fox_refusals.proofs.Laws.Reply.{chosen, number_not_zero}
use Rattle.fox_session.specs.Promise.{Starts}
use Rattle.fox_server_key.specs.Prepared.{preparation_of}
use Rattle.fox_server_key.proofs.Laws.Prepares.{from-prepared}
use Rattle.fox_server_session.specs.Session.{machine_of, TrueOf, no_session, started_of, session_of}
use Rattle.fox_server_session.proofs.Laws.Sessions.{refused_begins}
use Rattle.fox_server_session.proofs.session.Session.start_from_key.Goals as goal

pub returns-in_err-for_run : goal.returns-in_err-for_run
returns-in_err-for_run c =
    let is : c.from_residual.result ≡ Err c.in_err-for_run.field-0.0 = search rules in
    refused_begins _ _ _ _ _ _ _ is c.in_err-for_run.ensures

pub returns-in_err-prepare : goal.returns-in_err-prepare
returns-in_err-prepare c =
    let keyed = (stretched _ _ _ _ _ _ _ _ (sym c.in_ok-for_run.ensures)).keyed in
    absurd (number_not_zero c.in_err-prepare.field-0.0 (c.in_err-prepare.ensures.refusal ∙ keyed-served keyed))

pub returns : goal.returns
returns c =
    let a = c.args in
    let r = c.start.result in
    let made = c.in_ok-prepare in
    let keyed = (stretched _ _ _ _ _ _ _ _ (sym c.in_ok-for_run.ensures)).keyed in
    record {
      starts = from-prepared (λ (cipher n key_len : ℕ) (rks : List ℕ). Starts machine_of TrueOf no_session a.sealing cipher n key_len rks a.counter.now
          (started_of r) (session_of r)) a.cipher a.rounds a.key.now (preparation_of (Ok made.field-0)) keyed made.ensures c.start.ensures.starts;
      key = λ z. c.start.ensures.key z ∙ made.ensures.key ∙ sym (chosen _ _ _ (keyed-served keyed));
    }
