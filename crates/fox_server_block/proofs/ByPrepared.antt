-- A block with a prepared key is a block with the key it was prepared from: preparing returns the key's cipher, rounds and length, and the round keys that it
-- holds are those of the definition. So every theorem on blocks with a key holds of these calls too.
-- Assumes nothing.
use mathlib.Core.Bool.{Bool}
use mathlib.Core.List.{List}
use Prim.Native.Nat.{ℕ}
use lib.ListN.{length}
use Rattle.fox_refusals.specs.Refusals.{Keyed}
use Rattle.fox_refusals.specs.Answer.{Answer}
use Rattle.fox_block.specs.Promise.{Turns, TurnsWith}
use Rattle.fox_server_key.specs.Prepared.{Prepares, round_keys_in}
use Rattle.fox_server_key.specs.Prepared.{Preparation}
use Rattle.fox_server_key.proofs.Laws.Prepares.{from-prepared}

pub turn-prepared : (d : Bool) (c rounds : ℕ) (key block : List ℕ) (made : Preparation) {before after : List ℕ} {r : Answer}
    → Keyed c rounds (length key) → Prepares c rounds key made
    → TurnsWith d made.key.cipher made.key.rounds made.key.key_len (round_keys_in made.key) block before after r
    → Turns d c rounds key block before after r
turn-prepared d c rounds key block made {before} {after} {r} keyed is call =
    from-prepared (λ (cipher n key_len : ℕ) (rks : List ℕ). TurnsWith d cipher n key_len rks block before after r) c rounds key made keyed is call
