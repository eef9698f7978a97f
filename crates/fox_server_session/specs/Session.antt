-- A session as one value: the plain machine that it stands for, whether its stored block is true, the same session elsewhere, that of a refused start, what a
-- start answers and promises, and a call that changes a session where the caller has it.
-- Assumes nothing.
use Rattle.std.specs.Prelude.{◌≡◌, ℕ, Bool, false, List, Result, Ok, Err}
use Rattle.fox_refusals.specs.Answer.{Answer, number_in}
use Rattle.fox_refusals.specs.declared.refusal.Refusal.{Refusal}
use Rattle.fox_session.specs.declared.Here.{Here}
use Rattle.fox_session.specs.Machine.{Machine, Call}
use Rattle.fox_session.specs.Promise.{Starts, Follows}
use Rattle.fox_server_key.specs.declared.prepared.Prepared.{Prepared}
use Rattle.fox_server_key.specs.Prepared.{no_key}
use Rattle.fox_server_session_step.specs.declared.step.Basis.{Basis}
use Rattle.fox_server_session_step.specs.Step.{machine_at, TrueAt}
use Rattle.fox_server_session.specs.declared.session.Session.{Session}

-- what stays the same in a session
abbrev pub basis_of : Session → Basis
basis_of s =
    record { sealing = s.sealing; cipher = s.key.cipher; rounds = s.key.rounds; key_len = s.key.key_len; counter = s.counter }

abbrev pub machine_of : Session → Machine
machine_of s = machine_at (basis_of s) s.key.keys s.here

abbrev pub TrueOf : Session → Type 0
TrueOf s = TrueAt (basis_of s) s.key.keys s.here

-- the same session elsewhere
abbrev pub session_at : Session → Here → Session
session_at s here = record { key = s.key; counter = s.counter; here = here; sealing = s.sealing }

-- the session of a refused start: all zeros, which is for opening
unfoldable pub no_session : Session
no_session =
    record {
      key = no_key;
      counter = record { left = 0; right = 0 };
      here = record { position = 0; block = record { left = 0; right = 0 } };
      sealing = false;
    }

-- what a start answers, with its count, which is 0; and its session, all zeros where it is refused
abbrev pub started_of : Result Session Refusal → Answer
started_of r = record { refusal = number_in r; count = 0 }

abbrev pub session_of : Result Session Refusal → Session
session_of (Ok s) = s
session_of (Err e) = no_session

-- a start whose session, where it is served, holds this prepared key
pub record Begins (sealing : Bool) (p : Prepared) (cipher rounds key_len : ℕ) (rks counter : List ℕ) (r : Answer) (s : Session) : Type 0 where
  pub starts : Starts machine_of TrueOf no_session sealing cipher rounds key_len rks counter r s
  pub key : r.refusal ≡ 0 → s.key ≡ p

-- a call on a session that is changed where the caller has it: it follows the plain machine, and nothing but where the session stands is changed
pub record Changes (s : Session) (call : Call) (output : List ℕ) (r : Answer) (s' : Session) : Type 0 where
  pub follows : Follows machine_of TrueOf s call output r s'
  pub stays : s' ≡ session_at s s'.here
