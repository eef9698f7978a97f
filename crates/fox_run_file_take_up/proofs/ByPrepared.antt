-- A file taken up with a prepared key is one taken up with the key it was prepared from: preparing returns the key's cipher, rounds and length, and the round
-- keys that it holds are those of the definition. With a key that was refused it is refused with 1.
-- Assumes nothing.
use mathlib.Core.Path.{◌≡◌, ap, ◌∙◌}
use mathlib.Core.List.{List}
use Prim.Native.Nat.{ℕ}
use lib.ListN.{length}
use Rattle.fox_key_schedule.specs.Schedule.{round_keys}
use Rattle.fox_refusals.specs.Refusals.{refusal_of, wrong_cipher, for_key, Keyed}
use Rattle.fox_server_key.specs.Prepared.{Prepares, round_keys_in}
use Rattle.fox_server_key.specs.Prepared.{Preparation}
use Rattle.fox_server_key.proofs.Laws.Prepares.{from-prepared}
use Rattle.fox_server_key.proofs.Preparing.{key-refused}
use Rattle.fox_run_file.specs.Outcomes.{Taken}
use Rattle.fox_run_file.specs.Refusals.{for_take_up}
use Rattle.fox_run_file.specs.Promise.{TakesUpWith}

module _ (c rounds : ℕ) (key file : List ℕ) (made : Preparation) {t : Taken} (is : Prepares c rounds key made)
    (call : TakesUpWith made.key.cipher made.key.rounds made.key.key_len (round_keys_in made.key) file t) where
  pub take-up-prepared : Keyed c rounds (length key) → TakesUpWith c rounds (length key) (round_keys c rounds key) file t
  take-up-prepared keyed =
      from-prepared (λ (cipher n key_len : ℕ) (rks : List ℕ). TakesUpWith cipher n key_len rks file t) c rounds key made keyed is call

  pub take-up-refused : (made.answer.refusal ≡ 0 → ⊥) → t.refusal ≡ 1
  unfolding refusal_of for_key for_take_up wrong_cipher
  take-up-refused isnt =
      call.refusal
      ∙ ap (λ (cipher : ℕ). refusal_of (for_take_up cipher made.key.rounds made.key.key_len (round_keys_in made.key) file))
      (key-refused c rounds key made is isnt).cipher
