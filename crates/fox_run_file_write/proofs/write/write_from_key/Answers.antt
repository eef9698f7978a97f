-- `write::write_from_key` meets its contract: the refusals are those of the key bytes; past them the prepared key is that of the key, and holds the round
-- keys of the definition.
-- Assumes nothing.
use Rattle.std.proofs.Common.{ℕ, List, Result, subst}
use mathlib.Core.Path.{◌≡◌, sym, ◌∙◌}
use Rattle.std.proofs.lemmas.Result.{err_from_is_err_and}
use Rattle.fox_refusals.specs.declared.refusal.Refusal.{Refusal}
use Rattle.fox_refusals.proofs.Laws.Refusals.{keyed-served}
use Rattle.fox_refusals.proofs.Laws.Reply.{number_not_zero}
use Rattle.fox_server_key.specs.Prepared.{Prepares, preparation_of}
use Rattle.fox_server_key.specs.declared.prepared.Prepared.{Prepared}
use Rattle.fox_run_file.proofs.Laws.Refusals.{writable}
use Rattle.fox_run_file.proofs.Laws.Writes.{refused-writes}
use Rattle.fox_run_file_write.proofs.ByPrepared.{write-prepared}
use Rattle.fox_run_file_write.proofs.write.write_from_key.Goals as goal

-- what preparing a key promises of an answer, it promises of the answer that it is found to be
prepared : {cipher rounds : ℕ} {key : List ℕ} {r s : Result Prepared Refusal} → r ≡ s → Prepares cipher rounds key (preparation_of r)
    → Prepares cipher rounds key (preparation_of s)
prepared {cipher} {rounds} {key} e p = subst (λ (r : Result Prepared Refusal). Prepares cipher rounds key (preparation_of r)) e p

pub returns-in_err-for_write : goal.returns-in_err-for_write
returns-in_err-for_write c =
    let err = err_from_is_err_and c.from_residual.result c.from_residual.ensures.1 in
    rw (err.1, err.2) (refused-writes _ c.in_err-for_write.ensures.refusal)

pub returns-in-Err : goal.returns-in-Err
returns-in-Err c =
    let known = writable _ _ _ _ _ _ _ (sym c.in_ok-for_write.ensures.refusal) in
    absurd (number_not_zero _ ((prepared c.in-Err.is c.prepare.ensures).refusal ∙ keyed-served known.keyed))

pub returns-in-Ok : goal.returns-in-Ok
returns-in-Ok c =
    let a = c.args in
    let known = writable _ _ _ _ _ _ _ (sym c.in_ok-for_write.ensures.refusal) in
    write-prepared a.cipher a.rounds a.key.now a.counter.now a.input.now a.sizes.now _ (prepared c.in-Ok.is c.prepare.ensures) c.write_by.ensures known.keyed
