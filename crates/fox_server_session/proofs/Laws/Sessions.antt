-- What holds of a session's parts holds of it as one value; and what a start promises, from what it did: its session is at position 0 with the first block, or
-- it is the session with no key.
-- Assumes nothing.
use mathlib.Core.Path.{◌≡◌, refl, sym, ap, ◌∙◌}
use mathlib.Core.Logic.{⊎_elim}
use mathlib.Core.Bool.{Bool}
use mathlib.Core.List.{List}
use Prim.Native.Nat.{ℕ}
use native.Mathlib.Omega.{arith}
use lib.ListN.{length}
use Rattle.fox_refusals.specs.Refusals.{refusal_of, for_run}
use Rattle.std.specs.Prelude.{Result, Err}
use Rattle.fox_refusals.specs.Answer.{Answer, number_of}
use Rattle.fox_refusals.specs.declared.refusal.Refusal.{Refusal}
use Rattle.fox_refusals.proofs.Laws.Reply.{number_not_zero}
use Rattle.fox_session.specs.Machine.{Call}
use Rattle.fox_session.specs.Promise.{Starts, Follows}
use Rattle.fox_session.specs.InUse.{held_block, BlockAt}
use Rattle.fox_session.specs.declared.Pair.{Pair}
use Rattle.fox_session.specs.declared.Here.{Here}
use Rattle.fox_server_key.specs.Prepared.{held_keys, round_keys_in, no_key}
use Rattle.fox_server_key.specs.declared.prepared.Prepared.{Prepared}
use Rattle.fox_server_session_step.specs.declared.step.Basis.{Basis}
use Rattle.fox_server_session_step.specs.Step.{machine_at, TrueAt}
use Rattle.fox_server_session.specs.declared.session.Session.{Session}
use Rattle.fox_server_session.specs.Session.{basis_of, machine_of, TrueOf, session_at, no_session, started_of, session_of, Begins}

-- what holds of the parts holds of the session as one value
pub in-session : (s : Session) {b : Basis} {keys : List ℕ} (call : Call) {output : List ℕ} {r : Answer} {next : Here} → b ≡ basis_of s → keys ≡ s.key.keys
    → Follows (machine_at b keys) (TrueAt b keys) s.here call output r next → Follows machine_of TrueOf s call output r (session_at s next)
in-session s call {output} {r} {next} basis words parts =
    let f : Follows (machine_at (basis_of s) s.key.keys) (TrueAt (basis_of s) s.key.keys) s.here call output r next = rw (basis, words) at parts in
    record {
      refusal = f.refusal;
      count = f.count;
      goes = f.goes;
      refused = λ z. (ap (session_at s) (f.refused z).0, (f.refused z).1);
      bytes = f.bytes;
      true = f.true;
    }

-- the starts

module _ (sealing : Bool) (cipher rounds key_len : ℕ) (rks counter : List ℕ) where
  -- a start that code refuses with the number n, which it found to be other than 0. Its session's key is refused, as no cipher is 0
  pub refused-start : {r : Answer} {s : Session} {n : ℕ} → n ≡ refusal_of (for_run sealing cipher rounds key_len (length counter) 0 0 0) → (n ≡ 0 → ⊥)
      → (r.refusal ≡ n) × (r.count ≡ 0) × (s ≡ no_session) → Starts machine_of TrueOf no_session sealing cipher rounds key_len rks counter r s
  unfolding machine_at no_session no_key
  refused-start e isnt refused =
      record {
        refusal = refused.0 ∙ e;
        count = refused.1;
        served = λ z. absurd (isnt (sym refused.0 ∙ z));
        refused = λ z. refused.2;
        true = λ keyed.
            let cipher = ap (λ (x : Session). x.key.cipher) refused.2 in
            absurd (⊎_elim (λ h. omega arith) (λ h. omega arith) keyed.cipher);
      }

  -- the same of what code answers, a Result, whatever key it was to be of
  pub refused_begins : {e : Refusal} {r : Result Session Refusal} (p : Prepared) → r ≡ Err e
      → number_of e ≡ refusal_of (for_run sealing cipher rounds key_len (length counter) 0 0 0)
      → Begins sealing p cipher rounds key_len rks counter (started_of r) (session_of r)
  refused_begins {e} p is number =
      rw is (record { starts = refused-start number (number_not_zero e) (refl, refl, refl); key = λ z. absurd (number_not_zero e z) })

pub served-start : (sealing : Bool) (p : Prepared) (first block : Pair) (counter : List ℕ) {r : Answer}
    → refusal_of (for_run sealing p.cipher p.rounds p.key_len (length counter) 0 0 0) ≡ 0 → (r.refusal ≡ 0) × (r.count ≡ 0)
    → held_block p.cipher first ≡ counter → BlockAt p.cipher (held_keys p.cipher p.keys p.rounds) (held_block p.cipher first) 0 block
    → Starts machine_of TrueOf no_session sealing p.cipher p.rounds p.key_len (round_keys_in p) counter r
    (record { key = p; counter = first; here = record { position = 0; block = block }; sealing = sealing })
unfolding machine_at round_keys_in
served-start sealing p first block counter zero served read made =
    record {
      refusal = served.0 ∙ sym zero;
      count = served.1;
      served = λ z.
          ap (λ (bs : List ℕ). record {
            sealing = sealing;
            cipher = p.cipher;
            rounds = p.rounds;
            key_len = p.key_len;
            rks = held_keys p.cipher p.keys p.rounds;
            counter = bs;
            position = 0;
          }) read;
      refused = λ isnt. absurd (isnt served.0);
      true = λ keyed. made;
    }
