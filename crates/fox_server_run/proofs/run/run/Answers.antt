-- `run::run` meets its contract: past the refusals rounds and lengths are as the stretch needs them, and the round keys are those that the prepared key holds.
-- Assumes nothing.
use mathlib.Core.Path.{sym}
use Rattle.fox_refusals.proofs.Laws.Refusals.{stretched}
use Rattle.fox_refusals.proofs.Laws.Reply.{served_answer}
use Rattle.fox_server_key.specs.Prepared.{round_keys_in}
use Rattle.fox_server_run.proofs.Laws.Stretch.{ready}
use Rattle.fox_server_run.proofs.run.run.Goals as goal

pub stretch-requires : goal.stretch-requires
stretch-requires c = ready _ _ _ (stretched _ _ _ _ _ _ _ _ (sym c.in_ok-for_run.ensures))

pub returns : goal.returns
unfolding round_keys_in
returns c = served_answer (sym c.in_ok-for_run.ensures) c.stretch.auto.out c.stretch.ensures
