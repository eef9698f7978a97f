-- What the calls on a session promise, whole. S is what holds a session, as a struct or as words that C lends; `machine` says which plain machine it stands
-- for, and `True` that its stored block is true to the position.
-- Assumes nothing.
use Rattle.std.specs.Prelude.{◌≡◌, ℕ, Bool, List, [], ◌∷◌, ◌++◌, length}
use Rattle.fox_refusals.specs.Refusals.{refusal_of, for_run}
use Rattle.fox_refusals.specs.Answer.{Answer}
use Rattle.fox_session.specs.Machine.{Machine, at_start, Call, Advance, Told, lent, tells, after}

-- a start for sealing or for opening, from cipher, rounds, key length, a list of round keys and the counter block: refused as a stretch of no bytes at the
-- run's start is; count 0; a session at position 0 with its block, or `none` where it is refused
pub record Starts {S : Type 0} (machine : S → Machine) (True : S → Type 0) (none : S) (sealing : Bool) (cipher rounds key_len : ℕ) (rks counter : List ℕ)
    (r : Answer) (s : S) : Type 0 where
  pub refusal : r.refusal ≡ refusal_of (for_run sealing cipher rounds key_len (length counter) 0 0 0)
  pub count : r.count ≡ 0
  pub served : r.refusal ≡ 0 → machine s ≡ at_start sealing cipher rounds key_len rks counter
  pub refused : (r.refusal ≡ 0 → ⊥) → s ≡ none
  pub true : True s

-- a call on a session, with the output and the session as they are afterwards. Refusal, count, position, and that a refused call changes nothing, hold of
-- every session, whoever filled it; the output's bytes hold where the stored block is true, and there it stays true
pub record Follows {S : Type 0} (machine : S → Machine) (True : S → Type 0) (s : S) (call : Call) (output : List ℕ) (r : Answer) (s' : S) : Type 0 where
  pub refusal : r.refusal ≡ (tells (machine s) call).refusal
  pub count : r.count ≡ (tells (machine s) call).count
  pub goes : machine s' ≡ after (machine s) call
  pub refused : (r.refusal ≡ 0 → ⊥) → (s' ≡ s) × (output ≡ lent call)
  pub bytes : True s → output ≡ (tells (machine s) call).output
  pub true : True s → True s'

-- a list of calls on a session, one after the other, and what they told
pub data Plays {S : Type 0} (machine : S → Machine) (True : S → Type 0) : S → List Call → List Told → S → Type 0 where
  none : {s : S} → Plays machine True s [] [] s
  next : {s s' s'' : S} {call : Call} {calls : List Call} {output : List ℕ} {r : Answer} {tolds : List Told}
      → Follows machine True s call output r s' → Plays machine True s' calls tolds s''
      → Plays machine True s (call ∷ calls) (record { refusal = r.refusal; count = r.count; output = output } ∷ tolds) s''

-- advances that were served, one after the other: the inputs joined, and the outputs joined
pub data Advances {S : Type 0} (machine : S → Machine) (True : S → Type 0) : S → List ℕ → List ℕ → S → Type 0 where
  none : {s : S} → Advances machine True s [] [] s
  next : {s s' s'' : S} (ds : List ℕ) {before after inputs outputs : List ℕ} {r : Answer}
      → Follows machine True s (Advance ds before) after r s' → r.refusal ≡ 0 → Advances machine True s' inputs outputs s''
      → Advances machine True s (ds ++ inputs) (after ++ outputs) s''
