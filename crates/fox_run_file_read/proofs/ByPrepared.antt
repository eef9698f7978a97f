-- A scan read with a prepared key is one read with the key it was prepared from: preparing returns the key's cipher, rounds and length, and the round keys that
-- it holds are those of the definition.
-- Assumes nothing.
use mathlib.Core.List.{List}
use Prim.Native.Nat.{ℕ}
use lib.ListN.{length}
use Rattle.fox_key_schedule.specs.Schedule.{round_keys}
use Rattle.fox_refusals.specs.Refusals.{Keyed}
use Rattle.fox_server_key.specs.Prepared.{Prepares, round_keys_in}
use Rattle.fox_server_key.specs.Prepared.{Preparation}
use Rattle.fox_server_key.proofs.Laws.Prepares.{from-prepared}
use Rattle.fox_run_file.specs.declared.place.Place.{Place}
use Rattle.fox_run_file.specs.Outcomes.{Read}
use Rattle.fox_run_file.specs.Promise.{ReadsWith}

pub read-prepared : (c rounds : ℕ) (key file : List ℕ) (place : Place) (made : Preparation) {before after : List ℕ} {x : Read}
    → Keyed c rounds (length key) → Prepares c rounds key made
    → ReadsWith made.key.cipher made.key.rounds made.key.key_len (round_keys_in made.key) file place before after x
    → ReadsWith c rounds (length key) (round_keys c rounds key) file place before after x
read-prepared c rounds key file place made {before} {after} {x} keyed is call =
    from-prepared (λ (cipher n key_len : ℕ) (rks : List ℕ). ReadsWith cipher n key_len rks file place before after x) c rounds key made keyed is call
