-- What a display does with a session: advances one after the other give, joined, the run from the position on; and a move to a byte, followed by an advance,
-- gives that stretch of the whole run.
-- Assumes nothing.
use mathlib.Core.Path.{◌≡◌, refl, sym, ap, subst, ◌∙◌}
use Prim.Native.Nat.{ℕ, ◌+◌, ◌≤◌}
use mathlib.Core.List.{List}
use mathlib.Core.Bool.{Bool, cond}
use lib.Dec.{eqb}
use lib.ListN.{length, take, drop}
use Rattle.fox_refusals.specs.Reply.{Served}
use Rattle.fox_refusals.specs.Answer.{Answer}
use Rattle.fox_refusals.proofs.Laws.Refusals.{stretched}
use Rattle.fox_run.specs.Run.{run_with}
use Rattle.fox_run.specs.Promise.{RunsWith}
use Rattle.fox_run.specs.Cuts.{CallsOf}
use Rattle.fox_run.specs.Cuts as cuts
use Rattle.fox_run.proofs.Stretches.{cuts-joined, stretch-opened-alone}
use Rattle.fox_run.proofs.Laws.Served.{call-did}
use Rattle.fox_session.specs.Machine.{Machine, Advance, Move, standing}
use Rattle.fox_session.specs.Promise.{Follows, Advances, none, next}
use Rattle.fox_session.proofs.Lists.{advance-runs}

module _ {S : Type 0} (machine : S → Machine) (True : S → Type 0) where
  -- the calls on stretches that a machine's advances are
  abbrev Runs : Machine → ℕ → List ℕ → List ℕ → List ℕ → Answer → Type 0
  Runs m n ds before after r = RunsWith m.sealing m.cipher m.rounds m.key_len m.rks m.counter n ds before after r

  -- where an advance that was served leaves the machine
  advanced : {s s' : S} {ds before output : List ℕ} {r : Answer} → True s → Follows machine True s (Advance ds before) output r s' → r.refusal ≡ 0
      → machine s' ≡ standing (machine s) ((machine s).position + length ds)
  advanced {s} {s'} {ds} t f e =
      let m = machine s in
      f.goes ∙ ap (λ (n : ℕ). standing m (m.position + n))
      (sym f.count ∙ (call-did m.sealing m.cipher m.rounds m.key_len m.rks m.counter m.position ds (advance-runs machine True t f) e).count)

  advances-run : {s s' : S} {inputs outputs : List ℕ} (m : Machine) (n : ℕ) → machine s ≡ standing m n → True s
      → Advances machine True s inputs outputs s' → CallsOf (Runs m) n inputs outputs
  advances-run m n at t none = cuts.none
  advances-run {s} m n at t (next {s' = s'} ds {before} {after} {r = r} f e rest) =
      let here : Runs m n ds before after r = subst (λ (k : Machine). Runs k k.position ds before after r) at (advance-runs machine True t f) in
      let there = advanced t f e ∙ ap (λ (k : Machine). standing k (k.position + length ds)) at in
      cuts.next ds here e (advances-run m (n + length ds) there (f.true t) rest)

  pub advances-joined : {s s' : S} {inputs outputs : List ℕ} → True s → Advances machine True s inputs outputs s'
      → outputs ≡ run_with (machine s).cipher (machine s).rks (machine s).counter (machine s).position inputs
  advances-joined {s} t made =
      let m = machine s in
      cuts-joined m.cipher m.rounds m.key_len m.rks m.counter
      (λ (d : Bool). RunsWith d m.cipher m.rounds m.key_len m.rks m.counter) (λ d n ds before after r call. call) m.sealing
      (advances-run m m.position refl t made)

  -- where a move that was served leaves the machine
  moved : {s s' : S} {k : ℕ} {output : List ℕ} {r : Answer} → Follows machine True s (Move k) output r s' → r.refusal ≡ 0
      → machine s' ≡ standing (machine s) k
  moved {s} {s'} {k} f e =
      let m = machine s in
      f.goes ∙ ap (λ (n : ℕ). standing m (cond (eqb n 0) k m.position)) (sym f.refusal ∙ e)

  pub moved-stretch : {s s' s'' : S} (whole : List ℕ) (k m : ℕ) {none before output : List ℕ} {q r : Answer} → True s
      → Follows machine True s (Move k) none q s' → q.refusal ≡ 0 → Follows machine True s' (Advance (take m (drop k whole)) before) output r s''
      → length whole ≤ 1073741824 → k + m ≤ length whole → m ≤ 65536 → length before ≡ m
      → Served m (take m (drop k (run_with (machine s).cipher (machine s).rks (machine s).counter 0 whole))) output r
  moved-stretch {s} whole k m {before = before} {output} {q} {r} t f e g long fits short room =
      let a = machine s in
      let at = moved f e in
      let ready = stretched a.sealing a.cipher a.rounds a.key_len (length a.counter) k 0 0 (sym f.refusal ∙ e) in
      let call : Runs a k (take m (drop k whole)) before output r =
      subst (λ (b : Machine). Runs b b.position (take m (drop k whole)) before output r) at (advance-runs machine True (f.true t) g) in
      stretch-opened-alone a.sealing a.cipher a.rounds a.key_len a.rks a.counter whole k m ready.keyed ready.long ready.counter long fits short room call
