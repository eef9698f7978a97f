-- Any list of calls on a session gives the answers, bytes and positions of the plain machine; and each advance is answered as a call on that stretch of the
-- run is, so that every theorem on runs holds of it.
-- Assumes nothing.
use mathlib.Core.Path.{◌≡◌, refl, ap, ap₂, subst, ◌∙◌}
use Prim.Native.Nat.{ℕ, ◌<◌}
use native.Mathlib.Omega.{arith}
use mathlib.Core.Bool.{Bool, true}
use mathlib.Core.List.{List, [], ◌∷◌}
use Rattle.fox_refusals.specs.Refusals.{for_run, Keyed}
use Rattle.fox_refusals.specs.Answer.{Answer}
use Rattle.fox_refusals.proofs.Laws.Refusals.{short-key}
use Rattle.fox_run.specs.Promise.{RunsWith}
use Rattle.fox_session.specs.Machine.{Machine, at_start, Call, Told, Advance, Move, tells, standing, tells_all, after_all}
use Rattle.fox_session.specs.Promise.{Starts, Follows, Plays, none, next}

-- calls change nothing of a machine but its position
pub same_key : (m : Machine) (calls : List Call) → after_all m calls ≡ standing m (after_all m calls).position
unfolding after_all
same_key m [] = refl
same_key m (Advance input out ∷ calls) = same_key (standing m _) calls
same_key m (Move to ∷ calls) = same_key (standing m _) calls

-- a start for sealing with a key under 16 bytes is refused with 13, with nothing else wrong with the key, and gives `none`
pub short-key-start : {S : Type 0} {machine : S → Machine} {True : S → Type 0} {none s : S} {c rounds k : ℕ} {rks counter : List ℕ} {r : Answer}
    → Keyed c rounds k → k < 16 → Starts machine True none true c rounds k rks counter r s → (r.refusal ≡ 13) × (s ≡ none)
unfolding for_run
short-key-start keyed short start =
    let is = start.refusal ∙ short-key _ keyed short in
    (is, start.refused (λ z. omega arith))

module _ {S : Type 0} (machine : S → Machine) (True : S → Type 0) where
  -- one call
  told : {s s' : S} {call : Call} {output : List ℕ} {r : Answer} → True s → Follows machine True s call output r s'
      → record { refusal = r.refusal; count = r.count; output = output } ≡ tells (machine s) call
  told t f = λ i. record { refusal = f.refusal i; count = f.count i; output = f.bytes t i }

  pub as_plain : {s s' : S} {calls : List Call} {tolds : List Told} → True s → Plays machine True s calls tolds s'
      → (tolds ≡ tells_all (machine s) calls) × (machine s' ≡ after_all (machine s) calls) × True s'
  unfolding tells_all after_all
  as_plain t none = (refl, refl, t)
  as_plain {s} t (next {call = call} {calls = calls} f rest) =
      let later = as_plain (f.true t) rest in (
        ap₂ (λ (x : Told) (xs : List Told). x ∷ xs) (told t f) (later.0 ∙ ap (λ (m : Machine). tells_all m calls) f.goes),
        later.1 ∙ ap (λ (m : Machine). after_all m calls) f.goes,
        later.2,
      )

  -- from a start on, the plain machine is that of direction, cipher, rounds, key and counter
  pub started-plain : {z s s' : S} {d : Bool} {c rounds k : ℕ} {rks counter : List ℕ} {r : Answer} {calls : List Call} {tolds : List Told}
      → Starts machine True z d c rounds k rks counter r s → r.refusal ≡ 0 → Plays machine True s calls tolds s'
      → (tolds ≡ tells_all (at_start d c rounds k rks counter) calls) × (machine s' ≡ after_all (at_start d c rounds k rks counter) calls) × True s'
  started-plain {calls = calls} begun e played =
      let later = as_plain begun.true played in
      (later.0 ∙ ap (λ (m : Machine). tells_all m calls) (begun.served e), later.1 ∙ ap (λ (m : Machine). after_all m calls) (begun.served e), later.2)

  pub advance-runs : {s s' : S} {input before output : List ℕ} {r : Answer} → True s → Follows machine True s (Advance input before) output r s'
      → RunsWith (machine s).sealing (machine s).cipher (machine s).rounds (machine s).key_len (machine s).rks (machine s).counter (machine s).position input
      before output r
  advance-runs t f = record { refusal = f.refusal; count = f.count; output = f.bytes t }

  -- so after a start and any calls an advance is answered as a call on the stretch at the last position
  pub started-runs : {z s s' s'' : S} {d : Bool} {c rounds k : ℕ} {rks counter : List ℕ} {r q : Answer} {calls : List Call} {tolds : List Told}
      {input before output : List ℕ} → Starts machine True z d c rounds k rks counter r s → r.refusal ≡ 0 → Plays machine True s calls tolds s'
      → Follows machine True s' (Advance input before) output q s''
      → RunsWith d c rounds k rks counter (after_all (at_start d c rounds k rks counter) calls).position input before output q
  started-runs {d = d} {c = c} {rounds} {k} {rks} {counter} {q = q} {calls = calls} {input = input} {before} {output} begun e played f =
      let m = at_start d c rounds k rks counter in
      let later = started-plain begun e played in
      subst (λ (n : Machine). RunsWith n.sealing n.cipher n.rounds n.key_len n.rks n.counter n.position input before output q)
      (later.1 ∙ same_key m calls) (advance-runs later.2 f)
