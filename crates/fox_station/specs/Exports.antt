-- What the station's exports promise: the refusal number and every byte of the output, if there is one, for all inputs. The count follows from the number.
-- Assumes nothing.
use Rattle.std.specs.Prelude.{◌≡◌, Bool, true, cond, List, ℕ, eqb, length}
use Rattle.fox_refusals.specs.Refusals.{refusal_of, for_block, for_counter, for_tag, for_tag_test}
use Rattle.fox_refusals.specs.Handed.{Handed}
use Rattle.fox_refusals.specs.Answer.{Answer}
use Rattle.fox_block.specs.Block.{turn_block}
use Rattle.fox_run.specs.Counter.{first_counter}
use Rattle.fox_run.specs.Promise.{RunsHanded}
use Rattle.fox_tag.specs.Tag.{tag}

-- one block sealed or opened, from cipher, rounds, key bytes and block, with the output before and after
abbrev pub TurnHanded : Bool → ℕ → ℕ → List ℕ → List ℕ → List ℕ → List ℕ → ℕ → Type 0
TurnHanded sealing cipher rounds key block before after r =
    Handed (for_block sealing cipher rounds (length key) (length block) (length before)) (turn_block sealing cipher rounds key block) before after r

-- a stretch of a run sealed or opened, from cipher, rounds, key bytes, counter block, offset and input, with the output before and after
abbrev pub RunHanded : Bool → ℕ → ℕ → List ℕ → List ℕ → ℕ → List ℕ → List ℕ → List ℕ → ℕ → Type 0
RunHanded = RunsHanded

-- a run's first counter block, from cipher and the run's number, with the output before and after
abbrev pub CounterHanded : ℕ → ℕ → List ℕ → List ℕ → ℕ → Type 0
CounterHanded cipher number before after r = Handed (for_counter cipher (length before)) (first_counter cipher number) before after r

-- the tag of a message made, from cipher, rounds, key bytes and message, with the output before and after
abbrev pub MakeTagHanded : ℕ → ℕ → List ℕ → List ℕ → List ℕ → List ℕ → ℕ → Type 0
MakeTagHanded cipher rounds key message before after r =
    Handed (for_tag true cipher rounds (length key) (length message) (length before)) (tag cipher rounds key message) before after r

-- a stored tag tested, from cipher, rounds, key bytes, message and the stored tag; nothing is written
abbrev pub TestTagHanded : ℕ → ℕ → List ℕ → List ℕ → List ℕ → ℕ → Type 0
TestTagHanded cipher rounds key message stored r =
    r ≡ refusal_of (for_tag_test cipher rounds (length key) (length message) (tag cipher rounds key message) stored)

-- a call on a stretch as a call with an answer: the number that is returned, and the count that follows from it
pub record RunExport (sealing : Bool) (cipher rounds : ℕ) (key counter : List ℕ) (offset : ℕ) (input before after : List ℕ) (r : Answer) : Type 0 where
  pub number : RunHanded sealing cipher rounds key counter offset input before after r.refusal
  pub count : r.count ≡ cond (eqb r.refusal 0) (length before) 0
