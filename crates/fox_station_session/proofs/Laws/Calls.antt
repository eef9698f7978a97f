-- What a call or a start promises of a session holds of words, where the words afterwards hold the session afterwards.
-- Assumes nothing.
use mathlib.Core.Path.{◌≡◌, refl, sym, ap, subst, ◌∙◌}
use mathlib.Core.List.{List}
use mathlib.Core.Bool.{Bool, true, false, cond}
use Prim.Native.Nat.{ℕ}
use lib.Dec.{eqb}
use lib.ListN.{length, take}
use Rattle.std.specs.Prelude.{Result, Ok, Err}
use Rattle.fox_refusals.specs.Answer.{Answer, number_in, answer_of}
use Rattle.fox_refusals.specs.declared.refusal.Refusal.{Refusal}
use Rattle.fox_refusals.specs.Handed.{answer}
use Rattle.fox_session.specs.declared.Here.{Here}
use Rattle.fox_session.specs.Machine.{Machine, Call, Advance, Move, lent, tells}
use Rattle.fox_session.specs.Promise.{Starts, Follows}
use Rattle.fox_server_key.specs.Prepared.{no_key}
use Rattle.fox_server_session.specs.declared.session.Session.{Session}
use Rattle.fox_server_session_step.specs.declared.step.Basis.{Basis}
use Rattle.fox_server_session_step.specs.Step.{machine_at, TrueAt}
use Rattle.fox_server_session.specs.Session.{basis_of, session_at, machine_of, TrueOf, no_session}
use Rattle.fox_server_session.proofs.Laws.Sessions.{in-session}
use Rattle.fox_station_session.specs.Sessions.{session_in, machine_in, TrueIn, no_words, CallHanded}

-- the count that follows from the number is the one that is told

nothing : (b : Bool) → ◌≡◌ {A = ℕ} (cond b 0 0) 0
nothing true = refl
nothing false = refl

counted : (m : Machine) (call : Call) {n : ℕ} → n ≡ (tells m call).refusal → (answer n (length (lent call))).count ≡ (tells m call).count
unfolding answer
counted m (Advance input out) e = ap (λ (k : ℕ). cond (eqb k 0) (length out) 0) e
counted m (Move to) {n} e = nothing (eqb n 0)

number-told : (r : Result ℕ Refusal) → number_in r ≡ (answer_of r).refusal
number-told (Ok count) = refl
number-told (Err refusal) = refl

-- a call as one that returns the number alone, from which the count follows
pub call-handed : {words words' output : List ℕ} {call : Call} (r : Result ℕ Refusal) {n : ℕ} → n ≡ number_in r
    → CallHanded words call output (answer_of r) words' → CallHanded words call output (answer n (length (lent call))) words'
unfolding answer
call-handed {words} {call = call} r {n} e f =
    let told : n ≡ (answer_of r).refusal = e ∙ number-told r in
    record {
      refusal = told ∙ f.refusal;
      count = counted (machine_in words) call (told ∙ f.refusal);
      goes = f.goes;
      refused = λ isnt. f.refused (λ z. isnt (told ∙ z));
      bytes = f.bytes;
      true = f.true;
    }

-- a call on the session that the words hold: where it is served, they hold the session afterwards, and where it is refused, they are as they were
pub call-in-words : (words : List ℕ) {words' output : List ℕ} {call : Call} {b : Basis} {here next : Here} {a : Answer} → b ≡ basis_of (session_in words)
    → here ≡ (session_in words).here → Follows (machine_at b (take 510 words)) (TrueAt b (take 510 words)) here call output a next
    → session_in words' ≡ session_at (session_in words) next → ((a.refusal ≡ 0 → ⊥) → words' ≡ words) → CallHanded words call output a words'
unfolding session_in
call-in-words words {call = call} basis stands parts e stays =
    let f = in-session (session_in words) call basis refl (rw stands at parts) in
    record {
      refusal = f.refusal;
      count = f.count;
      goes = ap machine_of e ∙ f.goes;
      refused = λ isnt. (stays isnt, (f.refused isnt).1);
      bytes = f.bytes;
      true = λ t. subst TrueOf (sym e) (f.true t);
    }

-- all zeros hold the session of a refused start
no-session : session_in no_words ≡ no_session
unfolding session_in no_session no_key
no-session = refl

-- a start: its session is stored, and where it was refused the words are all zeros
module _ {sealing : Bool} {cipher rounds key_len : ℕ} {rks counter : List ℕ} {a : Answer} {s : Session}
    (f : Starts machine_of TrueOf no_session sealing cipher rounds key_len rks counter a s) where
  start-in-words : {words : List ℕ} → session_in words ≡ s → ((a.refusal ≡ 0 → ⊥) → words ≡ no_words)
      → Starts machine_in TrueIn no_words sealing cipher rounds key_len rks counter (answer a.refusal 0) words
  unfolding answer
  start-in-words e zeros =
      record {
        refusal = f.refusal;
        count = nothing (eqb a.refusal 0);
        served = λ z. ap machine_of e ∙ f.served z;
        refused = zeros;
        true = subst TrueOf (sym e) f.true;
      }

  pub start-stored : {words : List ℕ} → a.refusal ≡ 0 → session_in words ≡ s
      → Starts machine_in TrueIn no_words sealing cipher rounds key_len rks counter (answer a.refusal 0) words
  start-stored zero e = start-in-words e (λ isnt. absurd (isnt zero))

  pub start-refused : (a.refusal ≡ 0 → ⊥) → Starts machine_in TrueIn no_words sealing cipher rounds key_len rks counter (answer a.refusal 0) no_words
  start-refused isnt = start-in-words (no-session ∙ sym (f.refused isnt)) (λ again. refl)
