-- A file written with a prepared key is one written with the key it was prepared from: preparing returns the key's cipher, rounds and length, and the round
-- keys that it holds are those of the definition. A file with a key that was refused is refused with 1.
-- Assumes nothing.
use mathlib.Core.Path.{◌≡◌, ap, ◌∙◌}
use mathlib.Core.List.{List}
use Prim.Native.Nat.{ℕ}
use lib.ListN.{length}
use Rattle.fox_key_schedule.specs.Schedule.{round_keys}
use Rattle.fox_refusals.specs.Refusals.{refusal_of, wrong_cipher, for_key, for_turn, Keyed}
use Rattle.fox_refusals.specs.Answer.{Answer}
use Rattle.fox_server_key.specs.Prepared.{Prepares, round_keys_in}
use Rattle.fox_server_key.specs.Prepared.{Preparation}
use Rattle.fox_server_key.proofs.Laws.Prepares.{from-prepared}
use Rattle.fox_server_key.proofs.Preparing.{key-refused}
use Rattle.fox_run_file.specs.Refusals.{for_write}
use Rattle.fox_run_file.specs.Promise.{WritesFileWith}

module _ (c rounds : ℕ) (key counter input sizes : List ℕ) (made : Preparation) {before after : List ℕ} {r : Answer} (is : Prepares c rounds key made)
    (call : WritesFileWith made.key.cipher made.key.rounds made.key.key_len (round_keys_in made.key) counter input sizes before after r) where
  pub write-prepared : Keyed c rounds (length key) → WritesFileWith c rounds (length key) (round_keys c rounds key) counter input sizes before after r
  write-prepared keyed =
      from-prepared (λ (cipher n key_len : ℕ) (rks : List ℕ). WritesFileWith cipher n key_len rks counter input sizes before after r) c rounds key made keyed
      is call

  pub write-refused : (made.answer.refusal ≡ 0 → ⊥) → r.refusal ≡ 1
  unfolding refusal_of for_key for_turn for_write wrong_cipher
  write-refused isnt =
      call.refusal
      ∙ ap (λ (cipher : ℕ). refusal_of (for_write cipher made.key.rounds made.key.key_len (length counter) (length input) sizes (length before)))
      (key-refused c rounds key made is isnt).cipher
