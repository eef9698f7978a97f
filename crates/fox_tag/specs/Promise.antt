-- What a call on a tag promises, whole, for all inputs: making one, refusal number, count and every byte of the output; testing one, the refusal number, and
-- count 0. Every engine's call cites it.
-- Assumes nothing.
use Rattle.std.specs.Prelude.{◌≡◌, ℕ, true, cond, List, length}
use Rattle.fox_refusals.specs.Refusals.{same, for_tag, for_tag_test}
use Rattle.fox_refusals.specs.Reply.{Reply, Verdict}
use Rattle.fox_refusals.specs.Answer.{Answer}
use Rattle.fox_key_schedule.specs.Schedule.{round_keys}
use Rattle.fox_tag.specs.Tag.{tag_with}

-- from cipher, rounds, key length, a list of round keys and a message, with the output before and after
abbrev pub MakesTagWith : ℕ → ℕ → ℕ → List ℕ → List ℕ → List ℕ → List ℕ → Answer → Type 0
MakesTagWith cipher rounds key_len rks message before after r =
    Reply (for_tag true cipher rounds key_len (length message) (length before)) (tag_with cipher rks message) before after r

-- from cipher, rounds, key length, a list of round keys, a message and the stored tag
abbrev pub TestsTagWith : ℕ → ℕ → ℕ → List ℕ → List ℕ → List ℕ → Answer → Type 0
TestsTagWith cipher rounds key_len rks message stored r =
    Verdict (for_tag_test cipher rounds key_len (length message) (tag_with cipher rks message) stored) r

-- from cipher, rounds and key bytes, with the round keys of this key
abbrev pub MakesTag : ℕ → ℕ → List ℕ → List ℕ → List ℕ → List ℕ → Answer → Type 0
MakesTag cipher rounds key = MakesTagWith cipher rounds (length key) (round_keys cipher rounds key)

abbrev pub TestsTag : ℕ → ℕ → List ℕ → List ℕ → List ℕ → Answer → Type 0
TestsTag cipher rounds key = TestsTagWith cipher rounds (length key) (round_keys cipher rounds key)

-- a stored tag compared with the right one: 0 where they are the same, else 10, and count 0
pub record Compared (right stored : List ℕ) (r : Answer) : Type 0 where
  pub refusal : r.refusal ≡ cond (same right stored) 0 10
  pub count : r.count ≡ 0
