-- `read::read_from_key` meets its contract: a key that is refused opens no scan; past the key's refusals the prepared key is that of the key, and holds the
-- round keys of the definition.
-- Assumes nothing.
use mathlib.Core.Path.{sym}
use mathlib.Core.List.{List}
use Prim.Native.Nat.{ℕ}
use Rattle.std.proofs.lemmas.Result.{err_from_is_err_and}
use Rattle.fox_refusals.proofs.Laws.Refusals.{keyed}
use Rattle.fox_server_key.proofs.Laws.Prepares.{from-prepared}
use Rattle.fox_run_file.specs.Outcomes.{read_of}
use Rattle.fox_run_file.specs.Promise.{ReadsWith}
use Rattle.fox_run_file_read.proofs.Laws.Found.{absent, present}
use Rattle.fox_run_file_read.proofs.Laws.Opened.{ended, key-refused}
use Rattle.fox_run_file_read.proofs.read.read_from_key.Goals as goal

pub returns-then-is_none : goal.returns-then-is_none
returns-then-is_none c = ended _ _ _ _ _ _ (absent _ _ _ c.find_at.ensures c.if-is_none.ensures)

pub returns-in_err-p : goal.returns-in_err-p
returns-in_err-p c =
    let err = err_from_is_err_and c.from_residual.result c.from_residual.ensures.1 in
    let there = present _ _ _ c.find_at.ensures c.if-is_none.ensures in
    rw (err.1, err.2) (key-refused _ _ _ _ _ _ there _ c.in_err-p.ensures.refusal)

pub returns : goal.returns
returns c =
    let a = c.args in
    from-prepared
    (λ (cipher n key_len : ℕ) (rks : List ℕ). ReadsWith cipher n key_len rks a.file.now a.place a.out.now c.read_at.new.out
    (read_of c.read_at.result))
    a.cipher a.rounds a.key.now _ (keyed _ _ _ (sym c.in_ok-p.ensures.refusal)) c.in_ok-p.ensures c.read_at.ensures
