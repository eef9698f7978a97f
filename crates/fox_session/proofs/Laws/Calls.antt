-- What a call on a session promises, from what it did: a refused call returns the first refusal and leaves all as it was; a served one moves the position
-- on, or sets it.
-- Assumes nothing.
use mathlib.Core.Path.{◌≡◌, refl, sym, ap, subst, ◌∙◌}
use mathlib.Core.List.{List, []}
use Prim.Native.Nat.{ℕ, ◌+◌}
use native.Mathlib.Nat.{add-zero}
use lib.ListN.{length}
use Rattle.std.specs.Prelude.{Result, Err}
use Rattle.fox_refusals.specs.Answer.{Answer, number_of, answer_of}
use Rattle.fox_refusals.specs.declared.refusal.Refusal.{Refusal}
use Rattle.fox_refusals.proofs.Laws.Reply.{chosen, passed_over, number_not_zero}
use Rattle.fox_run.specs.Run.{run_with}
use Rattle.fox_session.specs.Machine.{Machine, Call, Advance, Move, lent, refusal_on, tells, standing}
use Rattle.fox_session.specs.Promise.{Follows}

module _ {S : Type 0} (machine : S → Machine) (True : S → Type 0) (s : S) where
  -- a call that code refuses with the number n, which it found to be other than 0
  pub refused-call : (call : Call) {r : Answer} {s' : S} {n : ℕ} → n ≡ (tells (machine s) call).refusal → (n ≡ 0 → ⊥)
      → (r.refusal ≡ n) × (r.count ≡ 0) × (s' ≡ s) → Follows machine True s call (lent call) r s'
  refused-call (Advance input out) e isnt refused =
      let m = machine s in
      let number = refusal_on m m.position (length input) (length out) in
      let refusal : number ≡ 0 → ⊥ = λ z. isnt (e ∙ z) in
      let none = passed_over number (length out) 0 refusal in
      record {
        refusal = refused.0 ∙ e;
        count = refused.1 ∙ none;
        goes = ap machine refused.2 ∙ ap (standing m) (sym (add-zero m.position) ∙ ap (λ (k : ℕ). m.position + k) none);
        refused = λ z. (refused.2, refl);
        bytes = λ t. passed_over number (run_with m.cipher m.rks m.counter m.position input) out refusal;
        true = λ t. subst True (sym refused.2) t;
      }
  refused-call (Move to) e isnt refused =
      let m = machine s in
      record {
        refusal = refused.0 ∙ e;
        count = refused.1;
        goes = ap machine refused.2 ∙ ap (standing m) (passed_over (refusal_on m to 0 0) to m.position (λ z. isnt (e ∙ z)));
        refused = λ z. (refused.2, refl);
        bytes = λ t. refl;
        true = λ t. subst True (sym refused.2) t;
      }

  -- the same of what code answers, a Result
  pub refused_result : (call : Call) {e : Refusal} {r : Result ℕ Refusal} → r ≡ Err e → number_of e ≡ (tells (machine s) call).refusal
      → Follows machine True s call (lent call) (answer_of r) s
  refused_result call {e} is number = rw is (refused-call call number (number_not_zero e) (refl, refl, refl))

  pub served-advance : (input out : List ℕ) {after : List ℕ} {r : Answer} {s' : S}
      → refusal_on (machine s) (machine s).position (length input) (length out) ≡ 0 → (r.refusal ≡ 0) × (r.count ≡ length out)
      → length out ≡ length input → machine s' ≡ standing (machine s) ((machine s).position + length input)
      → (True s → after ≡ run_with (machine s).cipher (machine s).rks (machine s).counter (machine s).position input) → (True s → True s')
      → Follows machine True s (Advance input out) after r s'
  served-advance input out zero served room goes bytes true =
      let m = machine s in
      let number = refusal_on m m.position (length input) (length out) in
      record {
        refusal = served.0 ∙ sym zero;
        count = served.1 ∙ chosen number (length out) 0 zero;
        goes = goes ∙ ap (λ (k : ℕ). standing m (m.position + k)) (sym room ∙ chosen number (length out) 0 zero);
        refused = λ isnt. absurd (isnt served.0);
        bytes = λ t. bytes t ∙ chosen number (run_with m.cipher m.rks m.counter m.position input) out zero;
        true = true;
      }

  pub served-move : (to : ℕ) {r : Answer} {s' : S} → refusal_on (machine s) to 0 0 ≡ 0 → (r.refusal ≡ 0) × (r.count ≡ 0)
      → machine s' ≡ standing (machine s) to → (True s → True s') → Follows machine True s (Move to) [] r s'
  served-move to zero served goes true =
      let m = machine s in
      record {
        refusal = served.0 ∙ sym zero;
        count = served.1;
        goes = goes ∙ ap (standing m) (chosen (refusal_on m to 0 0) to m.position zero);
        refused = λ isnt. absurd (isnt served.0);
        bytes = λ t. refl;
        true = true;
      }
