-- A reply from its parts, and the two cases of how a call ends, served or refused: it is served exactly where the refusals' number is 0.
-- Assumes nothing.
use Rattle.std.proofs.Common.{◌≡◌, ℕ, Result, Ok, Err, ◌<◌, true, cond, eqb, List, ◌++◌, length, sym, refl, ap, ◌∙◌, ap₂, arith, eq-eqb, ne_eqb, eqb-true}
use Rattle.fox_layers.proofs.Laws.Lists.{by-test}
use Rattle.fox_refusals.specs.Refusals.{Refusal, refusal_of, First, for_turn, Keyed}
use Rattle.fox_refusals.specs.Reply.{Reply, Verdict, Served, Refused, Same}
use Rattle.fox_refusals.specs.Handed.{Handed, answer}
use Rattle.fox_refusals.specs.Answer.{Answer, number_of, number_in, answer_of}
use Rattle.fox_refusals.specs.declared.refusal.Refusal as code
use Rattle.fox_refusals.proofs.Laws.Refusals.{first-given, given-first, short-key}

-- the value that a `cond` on the refusals' number takes
pub chosen : {A : Type 0} (n : ℕ) (a b : A) → n ≡ 0 → a ≡ cond (eqb n 0) a b
chosen n a b e = simp (eq-eqb n 0 e)

pub passed_over : {A : Type 0} (n : ℕ) (a b : A) → (n ≡ 0 → ⊥) → b ≡ cond (eqb n 0) a b
passed_over n a b e = simp (ne_eqb n 0 e)

pub served-reply : (rs : List Refusal) (value before after : List ℕ) (r : Answer) → refusal_of rs ≡ 0 → r.refusal ≡ 0 → r.count ≡ length before
    → after ≡ value → Reply rs value before after r
served-reply rs value before after r served refusal count output =
    record {
      refusal = refusal ∙ sym served;
      count = count ∙ chosen (refusal_of rs) (length before) 0 served;
      output = output ∙ chosen (refusal_of rs) value before served;
    }

-- a call that code refuses with the number n, which it found to be other than 0
pub refused-reply : {rs : List Refusal} {value before : List ℕ} {r : Answer} {n : ℕ} → n ≡ refusal_of rs → (n ≡ 0 → ⊥) → (r.refusal ≡ n) × (r.count ≡ 0)
    → Reply rs value before before r
refused-reply {rs} {value} {before} e isnt refused =
    let refusal : refusal_of rs ≡ 0 → ⊥ = λ z. isnt (e ∙ z) in
    record {
      refusal = refused.0 ∙ e;
      count = refused.1 ∙ passed_over (refusal_of rs) (length before) 0 refusal;
      output = passed_over (refusal_of rs) value before refusal;
    }

-- no refusal has the number of a served call
pub number_not_zero : (e : code.Refusal) → number_of e ≡ 0 → ⊥
number_not_zero e = grind arith

-- a reply fixes the value only where the call is served
pub reply-as : {rs : List Refusal} {value other before after : List ℕ} {r : Answer} → (refusal_of rs ≡ 0 → value ≡ other) → Reply rs value before after r
    → Reply rs other before after r
reply-as {rs} {value} {other} {before} same call =
    record {
      refusal = call.refusal;
      count = call.count;
      output = call.output
          ∙ by-test (eqb (refusal_of rs) 0)
          (λ t. rw t (same (eqb-true (refusal_of rs) 0 t)))
          (λ t. rw t refl);
    }

-- what a reply says

module _ {rs : List Refusal} {value before after : List ℕ} {r : Answer} (call : Reply rs value before after r) where
  pub served : refusal_of rs ≡ 0 → Served (length before) value after r
  served z =
      record {
        refusal = call.refusal ∙ z;
        count = call.count ∙ sym (chosen (refusal_of rs) (length before) 0 z);
        output = call.output ∙ sym (chosen (refusal_of rs) value before z);
      }

  -- a refused call has count 0 and leaves the output as it was, whatever call it is
  pub refused : (r.refusal ≡ 0 → ⊥) → Refused rs before after r
  refused n =
      let h : refusal_of rs ≡ 0 → ⊥ = λ z. n (call.refusal ∙ z) in
      record {
        refusal = call.refusal;
        count = call.count ∙ sym (passed_over (refusal_of rs) (length before) 0 h);
        output = call.output ∙ sym (passed_over (refusal_of rs) value before h);
      }

  -- where n is the number of the first refusal that applies, the call is refused with n
  pub refused-by : {n : ℕ} → First n rs → (n ≡ 0 → ⊥) → Refused rs before after r × (r.refusal ≡ n)
  refused-by f isnt =
      let is = call.refusal ∙ first-given f in
      (refused (λ z. isnt (sym is ∙ z)), is)

  -- and a call that is refused with a number is refused with that of the first refusal that applies
  pub refused-first : (r.refusal ≡ 0 → ⊥) → First r.refusal rs
  refused-first isnt = given-first r.refusal rs (sym call.refusal) isnt

-- a call that seals with a key under 16 bytes, and with nothing else wrong with the key, is refused with 13, whatever tests follow
pub short-key-refused : {c r k : ℕ} (rest : List Refusal) {value before after : List ℕ} {a : Answer} → Keyed c r k → k < 16
    → Reply (for_turn true c r k ++ rest) value before after a → Refused (for_turn true c r k ++ rest) before after a × (a.refusal ≡ 13)
short-key-refused rest keyed short call =
    let is = call.refusal ∙ short-key rest keyed short in
    (refused call (λ z. omega arith), is)

-- a call that writes nothing returns a number other than 0 exactly when it is that of the first refusal that applies
module _ {rs : List Refusal} {r : Answer} (call : Verdict rs r) where
  pub verdict-by : {n : ℕ} → First n rs → r.refusal ≡ n
  verdict-by f = call.refusal ∙ first-given f

  pub verdict-first : (r.refusal ≡ 0 → ⊥) → First r.refusal rs
  verdict-first isnt = given-first r.refusal rs (sym call.refusal) isnt

-- two calls with the same refusals, the same value and outputs of one length, of any engines and whatever the outputs held
pub same : {rs₁ rs₂ : List Refusal} {value before₁ before₂ after₁ after₂ : List ℕ} {r₁ r₂ : Answer} → rs₁ ≡ rs₂ → length before₁ ≡ length before₂
    → Reply rs₁ value before₁ after₁ r₁ → Reply rs₂ value before₂ after₂ r₂ → Same before₁ before₂ after₁ after₂ r₁ r₂
same {rs₁} {rs₂} {value} e l a b =
    let number = a.refusal ∙ ap refusal_of e ∙ sym b.refusal in
    record {
      refusal = number;
      count = a.count ∙ ap₂ (λ (rs : List Refusal) (n : ℕ). cond (eqb (refusal_of rs) 0) n 0) e l ∙ sym b.count;
      served = λ z. (served a (sym a.refusal ∙ z)).output ∙ sym (served b (sym b.refusal ∙ sym number ∙ z)).output;
      same_before = λ q. a.output ∙ ap₂ (λ (rs : List Refusal) (old : List ℕ). cond (eqb (refusal_of rs) 0) value old) e q ∙ sym b.output;
    }

-- what a call over the C interface returns is a reply, with the count that follows from the number
pub handed-reply : {rs : List Refusal} {value before after : List ℕ} {r : ℕ}
    → Handed rs value before after r → Reply rs value before after (answer r (length before))
unfolding answer
handed-reply {before = before} h =
    record { refusal = h.refusal; count = ap (λ (n : ℕ). cond (eqb n 0) (length before) 0) h.refusal; output = h.output }

-- a call's answer as code gives it: refused by its tests, with the output as it was; and served, with the whole output's length as count

pub refused_answer : {rs : List Refusal} {value before : List ℕ} {e : code.Refusal} {r : Result ℕ code.Refusal} → r ≡ Err e → number_of e ≡ refusal_of rs
    → Reply rs value before before (answer_of r)
refused_answer {rs} {value} {before} {e} is number = rw is (refused-reply number (number_not_zero e) (refl, refl))

pub served_answer : {rs : List Refusal} {value before after : List ℕ} {n : ℕ} → refusal_of rs ≡ 0 → n ≡ length before → after ≡ value
    → Reply rs value before after (answer_of (Ok n))
served_answer {rs} {value} {before} {after} zero count output = served-reply rs value before after (answer_of (Ok _)) zero refl count output

-- the refusal number of an answer with a count
pub answered : (r : Result ℕ code.Refusal) → (answer_of r).refusal ≡ number_in r
answered (Ok n) = refl
answered (Err e) = refl

-- a reply as the number alone
pub reply_handed : {rs : List Refusal} {value before after : List ℕ} (r : Result ℕ code.Refusal) → Reply rs value before after (answer_of r)
    → Handed rs value before after (number_in r)
reply_handed r reply = record { refusal = sym (answered r) ∙ reply.refusal; output = reply.output }
