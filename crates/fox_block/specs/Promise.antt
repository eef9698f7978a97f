-- What a call on one block promises, whole: refusal number, count and every byte of the output, for all inputs. Every engine's call cites it; `sealing` says
-- whether the call seals or opens.
-- Assumes nothing.
use Rattle.std.specs.Prelude.{◌≡◌, ℕ, Bool, List, length}
use Rattle.fox_refusals.specs.Refusals.{block_size, for_block}
use Rattle.fox_refusals.specs.Reply.{Reply}
use Rattle.fox_refusals.specs.Answer.{Answer}
use Rattle.fox_key_schedule.specs.Schedule.{round_keys}
use Rattle.fox_block.specs.Block.{turn_with}

-- from cipher, rounds, key length, a list of round keys and a block, with the output before and after
abbrev pub TurnsWith : Bool → ℕ → ℕ → ℕ → List ℕ → List ℕ → List ℕ → List ℕ → Answer → Type 0
TurnsWith sealing cipher rounds key_len rks block before after r =
    Reply (for_block sealing cipher rounds key_len (length block) (length before)) (turn_with sealing cipher rks block) before after r

-- from cipher, rounds and key bytes, with the round keys of this key
abbrev pub Turns : Bool → ℕ → ℕ → List ℕ → List ℕ → List ℕ → List ℕ → Answer → Type 0
Turns sealing cipher rounds key = TurnsWith sealing cipher rounds (length key) (round_keys cipher rounds key)

-- a call on a block and the inverse call on its output: both are served with the count B, and the second returns the block
pub record TurnedBack (c : ℕ) (block after : List ℕ) (r s : Answer) : Type 0 where
  pub served : r.refusal ≡ 0
  pub count : r.count ≡ block_size c
  pub served_back : s.refusal ≡ 0
  pub count_back : s.count ≡ block_size c
  pub same : after ≡ block
