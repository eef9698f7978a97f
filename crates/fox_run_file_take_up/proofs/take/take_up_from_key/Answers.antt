-- `take::take_up_from_key` meets its contract: the key's refusals come first; past them the prepared key is that of the key, and holds the round keys of the
-- definition.
-- Assumes nothing.
use mathlib.Core.Path.{sym}
use mathlib.Core.List.{List}
use Prim.Native.Nat.{ℕ}
use Rattle.std.proofs.lemmas.Result.{err_from_is_err_and}
use Rattle.fox_refusals.proofs.Laws.Refusals.{keyed}
use Rattle.fox_refusals.proofs.Laws.Reply.{number_not_zero}
use Rattle.fox_server_key.proofs.Laws.Prepares.{from-prepared}
use Rattle.fox_run_file.specs.Outcomes.{taken_of}
use Rattle.fox_run_file.specs.Promise.{TakesUpWith}
use Rattle.fox_run_file_take_up.proofs.Laws.Taken.{of-key, refused-taken}
use Rattle.fox_run_file_take_up.proofs.take.take_up_from_key.Goals as goal

pub returns-in_err-p : goal.returns-in_err-p
returns-in_err-p c =
    let err = err_from_is_err_and c.from_residual.result c.from_residual.ensures.1 in
    rw (err.1, err.2) (refused-taken _ _ _ _ _ _ (of-key _ _ _ _ _ c.in_err-p.ensures.refusal (number_not_zero _)))

pub returns : goal.returns
returns c =
    let a = c.args in
    from-prepared (λ (cipher n key_len : ℕ) (rks : List ℕ). TakesUpWith cipher n key_len rks a.file.now (taken_of c.take_up.result)) a.cipher a.rounds
    a.key.now _ (keyed _ _ _ (sym c.in_ok-p.ensures.refusal)) c.in_ok-p.ensures c.take_up.ensures
