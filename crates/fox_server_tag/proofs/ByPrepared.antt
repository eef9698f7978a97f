-- A tag made or tested with a prepared key is one made or tested with the key it was prepared from: preparing returns the key's cipher, rounds and length,
-- and the round keys that it holds are those of the definition. So every theorem on tags with a key holds of these calls too. With a key that was refused,
-- a tag is refused with 1.
-- Assumes nothing.
use mathlib.Core.Path.{◌≡◌, ap, ◌∙◌}
use mathlib.Core.Bool.{true}
use mathlib.Core.List.{List}
use Prim.Native.Nat.{ℕ}
use lib.ListN.{length}
use Rattle.fox_refusals.specs.Refusals.{refusal_of, wrong_cipher, for_key, for_tag, for_tag_test, Keyed}
use Rattle.fox_refusals.specs.Answer.{Answer}
use Rattle.fox_server_key.specs.Prepared.{Prepares, round_keys_in}
use Rattle.fox_server_key.specs.Prepared.{Preparation}
use Rattle.fox_server_key.proofs.Laws.Prepares.{from-prepared}
use Rattle.fox_server_key.proofs.Preparing.{key-refused}
use Rattle.fox_tag.specs.Tag.{tag_with}
use Rattle.fox_tag.specs.Promise.{MakesTag, MakesTagWith, TestsTag, TestsTagWith}

module _ (c rounds : ℕ) (key message : List ℕ) (made : Preparation) where
  pub make-prepared : {before after : List ℕ} {r : Answer} → Keyed c rounds (length key) → Prepares c rounds key made
      → MakesTagWith made.key.cipher made.key.rounds made.key.key_len (round_keys_in made.key) message before after r
      → MakesTag c rounds key message before after r
  make-prepared {before} {after} {r} keyed is call =
      from-prepared (λ (cipher n key_len : ℕ) (rks : List ℕ). MakesTagWith cipher n key_len rks message before after r) c rounds key made keyed is call

  pub test-prepared : (stored : List ℕ) {r : Answer} → Keyed c rounds (length key) → Prepares c rounds key made
      → TestsTagWith made.key.cipher made.key.rounds made.key.key_len (round_keys_in made.key) message stored r
      → TestsTag c rounds key message stored r
  test-prepared stored {r} keyed is call =
      from-prepared (λ (cipher n key_len : ℕ) (rks : List ℕ). TestsTagWith cipher n key_len rks message stored r) c rounds key made keyed is call

  pub make-refused : {before after : List ℕ} {r : Answer} → Prepares c rounds key made → (made.answer.refusal ≡ 0 → ⊥)
      → MakesTagWith made.key.cipher made.key.rounds made.key.key_len (round_keys_in made.key) message before after r → r.refusal ≡ 1
  unfolding refusal_of for_key for_tag wrong_cipher
  make-refused {before} is isnt call =
      call.refusal
      ∙ ap (λ (cipher : ℕ). refusal_of (for_tag true cipher made.key.rounds made.key.key_len (length message) (length before)))
      (key-refused c rounds key made is isnt).cipher

  pub test-refused : (stored : List ℕ) {r : Answer} → Prepares c rounds key made → (made.answer.refusal ≡ 0 → ⊥)
      → TestsTagWith made.key.cipher made.key.rounds made.key.key_len (round_keys_in made.key) message stored r → r.refusal ≡ 1
  unfolding refusal_of for_key for_tag for_tag_test wrong_cipher
  test-refused stored is isnt call =
      call.refusal
      ∙ ap (λ (cipher : ℕ). refusal_of (for_tag_test cipher made.key.rounds made.key.key_len (length message)
      (tag_with cipher (round_keys_in made.key) message) stored))
      (key-refused c rounds key made is isnt).cipher
