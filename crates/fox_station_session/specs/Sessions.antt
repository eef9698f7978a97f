-- What the station's exports on sessions promise, for all inputs: the refusal number and the count that follows from it, every byte of the output, and the
-- session that the words hold. They are the promises of a session, over words.
-- Assumes nothing.
use Rattle.std.specs.Prelude.{◌≡◌, ℕ, ◌%◌, ◌^◌, Bool, cond, not, List, eqb, length, get_or, take, replicate}
use Rattle.fox_refusals.specs.Answer.{Answer}
use Rattle.fox_key_schedule.specs.Schedule.{round_keys}
use Rattle.fox_server_key.specs.Prepared.{prepared_key}
use Rattle.fox_session.specs.Machine.{Machine, Call, Told, lent}
use Rattle.fox_session.specs.Promise.{Starts, Follows}
use Rattle.fox_server_session.specs.declared.session.Session.{Session}
use Rattle.fox_server_session.specs.Session.{machine_of, TrueOf}

-- the last word: 0 in a session for opening; in one for sealing any other number, and a start stores 1
unfoldable pub direction_word : Bool → ℕ
direction_word sealing = cond sealing 1 0

-- the session that 519 words hold
unfoldable pub session_in : List ℕ → Session
session_in words =
    record {
      key = record {
        cipher = get_or words 510 0 % 2 ^ 32;
        rounds = get_or words 511 0 % 2 ^ 32;
        key_len = get_or words 512 0;
        keys = take 510 words;
      };
      counter = record { left = get_or words 513 0; right = get_or words 514 0 };
      here = record { position = get_or words 515 0; block = record { left = get_or words 516 0; right = get_or words 517 0 } };
      sealing = not (eqb (get_or words 518 0) 0);
    }

abbrev pub machine_in : List ℕ → Machine
machine_in words = machine_of (session_in words)

abbrev pub TrueIn : List ℕ → Type 0
TrueIn words = TrueOf (session_in words)

-- the words of a refused start
abbrev pub no_words : List ℕ
no_words = replicate 519 0

-- a start for sealing or for opening, from cipher, rounds, key bytes and counter block, with the words afterwards: where it is served, all words of the
-- prepared key are this key's, and the last word is that of the direction
pub record StartHanded (sealing : Bool) (cipher rounds : ℕ) (key counter : List ℕ) (r : Answer) (words : List ℕ) : Type 0 where
  pub starts : Starts machine_in TrueIn no_words sealing cipher rounds (length key) (round_keys cipher rounds key) counter r words
  pub held : r.refusal ≡ 0 → (session_in words).key ≡ prepared_key cipher rounds key
  pub direction : r.refusal ≡ 0 → get_or words 518 0 ≡ direction_word sealing

-- a call, with the words before, the output and the words afterwards
abbrev pub CallHanded : List ℕ → Call → List ℕ → Answer → List ℕ → Type 0
CallHanded = Follows machine_in TrueIn

-- the plain machine of direction, cipher, rounds, key bytes and counter block, at a position
abbrev pub plain_at : Bool → ℕ → ℕ → List ℕ → List ℕ → ℕ → Machine
plain_at sealing cipher rounds key counter position =
    record {
      sealing = sealing;
      cipher = cipher;
      rounds = rounds;
      key_len = length key;
      rks = round_keys cipher rounds key;
      counter = counter;
      position = position;
    }

-- words of a session that stands for that machine, with a block in use that is true
pub record Stands (sealing : Bool) (cipher rounds : ℕ) (key counter words : List ℕ) (position : ℕ) : Type 0 where
  pub machine : machine_in words ≡ plain_at sealing cipher rounds key counter position
  pub true : TrueIn words

-- what a call tells that is refused with a number: count 0, and the output as it is lent
abbrev pub refused_with : ℕ → Call → Told
refused_with number call = record { refusal = number; count = 0; output = lent call }
