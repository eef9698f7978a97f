-- A stretch with a prepared key is a stretch with the key it was prepared from: preparing returns the key's cipher, rounds and length, and the round keys
-- that it holds are those of the definition. So every theorem on runs with a key holds of these calls too. A stretch with a key that was refused is refused
-- with 1.
-- Assumes nothing.
use mathlib.Core.Path.{◌≡◌, ap, ◌∙◌}
use mathlib.Core.Bool.{Bool}
use mathlib.Core.List.{List}
use Prim.Native.Nat.{ℕ}
use lib.ListN.{length}
use Rattle.fox_refusals.specs.Refusals.{refusal_of, wrong_cipher, for_key, for_turn, for_run, Keyed}
use Rattle.fox_refusals.specs.Answer.{Answer}
use Rattle.fox_server_key.specs.Prepared.{Prepares, round_keys_in}
use Rattle.fox_server_key.specs.Prepared.{Preparation}
use Rattle.fox_server_key.proofs.Laws.Prepares.{from-prepared}
use Rattle.fox_server_key.proofs.Preparing.{key-refused}
use Rattle.fox_run.specs.Promise.{Runs, RunsWith}

pub run-prepared : (d : Bool) (c rounds : ℕ) (key counter : List ℕ) (offset : ℕ) (ds : List ℕ) (made : Preparation) {before after : List ℕ} {r : Answer}
    → Keyed c rounds (length key) → Prepares c rounds key made
    → RunsWith d made.key.cipher made.key.rounds made.key.key_len (round_keys_in made.key) counter offset ds before after r
    → Runs d c rounds key counter offset ds before after r
run-prepared d c rounds key counter offset ds made {before} {after} {r} keyed is call =
    from-prepared (λ (cipher n key_len : ℕ) (rks : List ℕ). RunsWith d cipher n key_len rks counter offset ds before after r) c rounds key made keyed is call

pub run-refused : (d : Bool) (c rounds : ℕ) (key counter : List ℕ) (offset : ℕ) (ds : List ℕ) (made : Preparation) {before after : List ℕ} {r : Answer}
    → Prepares c rounds key made → (made.answer.refusal ≡ 0 → ⊥)
    → RunsWith d made.key.cipher made.key.rounds made.key.key_len (round_keys_in made.key) counter offset ds before after r → r.refusal ≡ 1
unfolding refusal_of for_key for_turn for_run wrong_cipher
run-refused d c rounds key counter offset ds made {before} is isnt call =
    call.refusal
    ∙ ap (λ (cipher : ℕ). refusal_of (for_run d cipher made.key.rounds made.key.key_len (length counter) offset (length ds) (length before)))
    (key-refused c rounds key made is isnt).cipher
