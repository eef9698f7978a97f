-- A session in its parts: the plain machine that it stands for, whether its stored block is true, and what the parts of a call promise each other.
-- Assumes nothing.
use Rattle.std.specs.Prelude.{◌≡◌, ℕ, ◌+◌, ◌≤◌, List, length}
use Rattle.fox_refusals.specs.Refusals.{Keyed}
use Rattle.fox_run.specs.Run.{run_with}
use Rattle.fox_session.specs.declared.Pair.{Pair}
use Rattle.fox_session.specs.declared.Here.{Here}
use Rattle.fox_session.specs.Machine.{Machine}
use Rattle.fox_session.specs.InUse.{held_block, TrueTo}
use Rattle.fox_server_key.specs.Prepared.{held_keys}
use Rattle.fox_server_session_step.specs.declared.step.Basis.{Basis}

-- the machine of a session in its parts: what stays the same, the words of the round keys, and where it stands
unfoldable pub machine_at : Basis → List ℕ → Here → Machine
machine_at b keys here =
    record {
      sealing = b.sealing;
      cipher = b.cipher;
      rounds = b.rounds;
      key_len = b.key_len;
      rks = held_keys b.cipher keys b.rounds;
      counter = held_block b.cipher b.counter;
      position = here.position;
    }

abbrev pub TrueAt : Basis → List ℕ → Here → Type 0
TrueAt b keys here = TrueTo (machine_at b keys here) here.block

-- what a step needs that is served: a key that is not refused, words enough for its round keys, and a next position within the run
pub record Ready (b : Basis) (keys : List ℕ) (next : ℕ) : Type 0 where
  pub keyed : Keyed b.cipher b.rounds b.key_len
  pub words : 510 ≤ length keys
  pub within : next ≤ 1073741824

-- w is the block that a position is in, where the block in use was true before
abbrev pub Renews : Basis → List ℕ → Here → ℕ → Pair → Type 0
Renews b keys here position w = TrueAt b keys here → TrueAt b keys (record { position = position; block = w })

-- the input sealed or opened at the position, and the block that the next position is in, where the block in use was true before
pub record Passes (b : Basis) (keys : List ℕ) (here : Here) (input output : List ℕ) (w : Pair) : Type 0 where
  pub bytes : TrueAt b keys here
      → output ≡ run_with b.cipher (held_keys b.cipher keys b.rounds) (held_block b.cipher b.counter) here.position input
  pub block : Renews b keys here (here.position + length input) w
