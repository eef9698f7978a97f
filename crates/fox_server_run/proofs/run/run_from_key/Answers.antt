-- `run::run_from_key` meets its contract: past the refusals of the key bytes the key is prepared, and holds the round keys of the definition.
-- Assumes nothing.
use mathlib.Core.Path.{sym, ◌∙◌}
use Rattle.fox_refusals.proofs.Laws.Refusals.{stretched, keyed-served}
use Rattle.fox_refusals.proofs.Laws.Reply.{number_not_zero}
use Rattle.fox_server_run.proofs.ByPrepared.{run-prepared}
use Rattle.fox_server_run.proofs.run.run_from_key.Goals as goal

pub returns-in_err-p : goal.returns-in_err-p
returns-in_err-p c =
    let known = stretched _ _ _ _ _ _ _ _ (sym c.in_ok-for_run.ensures) in
    absurd (number_not_zero c.in_err-p.field-0.0 (c.in_err-p.ensures.refusal ∙ keyed-served known.keyed))

pub returns : goal.returns
returns c =
    let a = c.args in
    let known = stretched _ _ _ _ _ _ _ _ (sym c.in_ok-for_run.ensures) in
    run-prepared a.sealing a.cipher a.rounds a.key.now a.counter.now a.offset a.input.now _ known.keyed c.in_ok-p.ensures c.run.ensures
