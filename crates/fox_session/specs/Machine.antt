-- The plain machine (02, order 5): it knows whether it seals or opens, key, counter and position, and nothing of what it worked out before. A session answers
-- as it would.
-- Assumes nothing.
use Rattle.std.specs.Prelude.{ℕ, ◌+◌, List, [], ◌∷◌, Bool, cond, eqb, length}
use Rattle.fox_refusals.specs.Refusals.{refusal_of, for_run}
use Rattle.fox_run.specs.Run.{run_with}

-- whether it was started for sealing or for opening; cipher, rounds, key length and round keys; the first counter block; and the position
pub record Machine : Type 0 where
  pub sealing : Bool
  pub cipher : ℕ
  pub rounds : ℕ
  pub key_len : ℕ
  pub rks : List ℕ
  pub counter : List ℕ
  pub position : ℕ

-- the machine of a session that was just started
abbrev pub at_start : Bool → ℕ → ℕ → ℕ → List ℕ → List ℕ → Machine
at_start sealing cipher rounds key_len rks counter =
    record { sealing = sealing; cipher = cipher; rounds = rounds; key_len = key_len; rks = rks; counter = counter; position = 0 }

-- a call: the next bytes sealed or opened, with the output as it is lent; a move to a position
pub data Call : Type 0 where
  Advance : (input out : List ℕ) → Call
  Move : (to : ℕ) → Call

-- what a call tells: refusal number, count, and the output as it is afterwards, which a move has not
pub record Told : Type 0 where
  pub refusal : ℕ
  pub count : ℕ
  pub output : List ℕ

-- the output as it is lent
abbrev pub lent : Call → List ℕ
lent (Advance input out) = out
lent (Move to) = []

-- the refusal number: an advance is refused as a stretch at the position is, and a move as one of no bytes where it goes to
abbrev pub refusal_on : Machine → ℕ → ℕ → ℕ → ℕ
refusal_on m offset input_len out_len = refusal_of (for_run m.sealing m.cipher m.rounds m.key_len (length m.counter) offset input_len out_len)

abbrev pub tells : Machine → Call → Told
tells m (Advance input out) =
    record {
      refusal = refusal_on m m.position (length input) (length out);
      count = cond (eqb (refusal_on m m.position (length input) (length out)) 0) (length out) 0;
      output = cond (eqb (refusal_on m m.position (length input) (length out)) 0) (run_with m.cipher m.rks m.counter m.position input) out;
    }
tells m (Move to) = record { refusal = refusal_on m to 0 0; count = 0; output = [] }

-- the same machine at another position
abbrev pub standing : Machine → ℕ → Machine
standing m position =
    record {
      sealing = m.sealing;
      cipher = m.cipher;
      rounds = m.rounds;
      key_len = m.key_len;
      rks = m.rks;
      counter = m.counter;
      position = position;
    }

-- the machine after a call: an advance moves the position on by its count, and a move sets it unless it is refused
abbrev pub after : Machine → Call → Machine
after m (Advance input out) = standing m (m.position + (tells m (Advance input out)).count)
after m (Move to) = standing m (cond (eqb (refusal_on m to 0 0) 0) to m.position)

-- a list of calls, one after the other: what they tell, and the machine after the last
unfoldable pub tells_all : Machine → List Call → List Told
tells_all m [] = []
tells_all m (call ∷ calls) = tells m call ∷ tells_all (after m call) calls

unfoldable pub after_all : Machine → List Call → Machine
after_all m [] = m
after_all m (call ∷ calls) = after_all (after m call) calls
