-- What a call on a stretch of a run promises, whole: refusal number, count and every byte of the output, for all inputs. Every engine's call cites it; `sealing`
-- says whether the call seals or opens, in which the refusals differ and nothing else. And what a call promises that makes a run's first counter block.
-- Assumes nothing.
use Rattle.std.specs.Prelude.{ℕ, Bool, List, length}
use Rattle.fox_refusals.specs.Refusals.{for_run, for_counter}
use Rattle.fox_refusals.specs.Reply.{Reply}
use Rattle.fox_refusals.specs.Handed.{Handed}
use Rattle.fox_refusals.specs.Answer.{Answer}
use Rattle.fox_key_schedule.specs.Schedule.{round_keys}
use Rattle.fox_run.specs.Counter.{first_counter}
use Rattle.fox_run.specs.Run.{run_with, run}

-- from cipher, rounds, key length, a list of round keys, counter block, offset and input, with the output before and after
abbrev pub RunsWith : Bool → ℕ → ℕ → ℕ → List ℕ → List ℕ → ℕ → List ℕ → List ℕ → List ℕ → Answer → Type 0
RunsWith sealing cipher rounds key_len rks counter offset input before after r =
    Reply (for_run sealing cipher rounds key_len (length counter) offset (length input) (length before)) (run_with cipher rks counter offset input) before after r

-- from cipher, rounds and key bytes, with the round keys of this key
abbrev pub Runs : Bool → ℕ → ℕ → List ℕ → List ℕ → ℕ → List ℕ → List ℕ → List ℕ → Answer → Type 0
Runs sealing cipher rounds key = RunsWith sealing cipher rounds (length key) (round_keys cipher rounds key)

-- the same as the refusal number alone, from which the count follows
abbrev pub RunsHanded : Bool → ℕ → ℕ → List ℕ → List ℕ → ℕ → List ℕ → List ℕ → List ℕ → ℕ → Type 0
RunsHanded sealing cipher rounds key counter offset input before after r =
    Handed (for_run sealing cipher rounds (length key) (length counter) offset (length input) (length before)) (run cipher rounds key counter offset input)
    before after r

-- from cipher and the run's number, with the output before and after
abbrev pub MakesCounter : ℕ → ℕ → List ℕ → List ℕ → Answer → Type 0
MakesCounter cipher number before after r = Reply (for_counter cipher (length before)) (first_counter cipher number) before after r
