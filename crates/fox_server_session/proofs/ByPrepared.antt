-- A session started from a prepared key is one of the key that it was prepared from, so that every theorem on sessions from key bytes holds of it. One that is
-- started from a key that was refused is refused with 1.
-- Assumes nothing.
use mathlib.Core.Path.{◌≡◌, ap, ◌∙◌}
use mathlib.Core.Bool.{Bool}
use mathlib.Core.List.{List}
use Prim.Native.Nat.{ℕ}
use lib.ListN.{length}
use Rattle.fox_refusals.specs.Refusals.{refusal_of, wrong_cipher, for_key, for_turn, for_run, Keyed}
use Rattle.fox_refusals.specs.Answer.{Answer}
use Rattle.fox_key_schedule.specs.Schedule.{round_keys}
use Rattle.fox_session.specs.Promise.{Starts}
use Rattle.fox_server_key.specs.Prepared.{Prepares, round_keys_in}
use Rattle.fox_server_key.specs.Prepared.{Preparation}
use Rattle.fox_server_key.proofs.Laws.Prepares.{from-prepared}
use Rattle.fox_server_key.proofs.Preparing.{key-refused}
use Rattle.fox_server_session.specs.declared.session.Session.{Session}
use Rattle.fox_server_session.specs.Session.{machine_of, TrueOf, no_session, Begins}

module _ (d : Bool) (c rounds : ℕ) (key counter : List ℕ) (made : Preparation) {r : Answer} {s : Session} (is : Prepares c rounds key made)
    (begun : Begins d made.key made.key.cipher made.key.rounds made.key.key_len (round_keys_in made.key) counter r s) where
  pub start-prepared : Keyed c rounds (length key) → Starts machine_of TrueOf no_session d c rounds (length key) (round_keys c rounds key) counter r s
  start-prepared keyed =
      from-prepared (λ (cipher n key_len : ℕ) (rks : List ℕ). Starts machine_of TrueOf no_session d cipher n key_len rks counter r s) c rounds key made keyed is
      begun.starts

  pub start-refused : (made.answer.refusal ≡ 0 → ⊥) → r.refusal ≡ 1
  unfolding refusal_of for_key for_turn for_run wrong_cipher
  start-refused isnt =
      begun.starts.refusal
      ∙ ap (λ (cipher : ℕ). refusal_of (for_run d cipher made.key.rounds made.key.key_len (length counter) 0 0 0))
      (key-refused c rounds key made is isnt).cipher
