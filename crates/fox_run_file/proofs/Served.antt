-- The files that are taken up are exactly those that are written from values in range, with a key that is not refused: both directions side by side.
-- Assumes nothing.
use mathlib.Core.List.{List}
use Prim.Native.Nat.{ℕ}
use Rattle.fox_run_file.specs.Values.{TakenExactly}
use Rattle.fox_run_file.proofs.Written.{file-taken, written-taken}
use Rattle.fox_run_file.proofs.Right.{taken-is-written}

pub taken-exactly : (cipher rounds key_len : ℕ) (rks file : List ℕ) → TakenExactly cipher rounds key_len rks file
taken-exactly cipher rounds key_len rks file =
    record {
      is_written = taken-is-written cipher rounds key_len rks file;
      sealed_taken = λ counter sealed key range e. rw e (file-taken cipher rounds rks counter sealed range key_len key);
      plain_taken = λ counter plain key range e. rw e (written-taken cipher rounds rks counter plain range key_len key);
    }
