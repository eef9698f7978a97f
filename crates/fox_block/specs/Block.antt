-- Sealing and opening one block, on lists of bytes (001 §2.1): with a given list of round keys, and with the round keys of a key.
-- Assumes nothing.
use Rattle.std.specs.Prelude.{◌≡◌, ℕ, Bool, true, false, cond, List, ◌++◌, eqb, length, take, drop}
use Rattle.fox_layers.specs.Words.{joined, split, Bytes}
use Rattle.fox_rounds.specs.Skeleton.{turned}
use Rattle.fox_rounds.specs.declared.fox64.Fox64.{Fox64}
use Rattle.fox_rounds.specs.declared.fox128.Fox128.{Fox128}
use Rattle.fox_rounds.specs.declared.state.State.{State}
use Rattle.fox_rounds.specs.declared.state.State.TheVariants.{Of64, Of128}
use Rattle.fox_key_schedule.specs.Schedule.{round_keys}
use Rattle.fox_refusals.specs.Refusals.{block_size}

-- a block's bytes as the words of a state, for each cipher
unfoldable pub state64 : List ℕ → Fox64
state64 block = record { l = joined (take 4 block); r = joined (take 4 (drop 4 block)) }

unfoldable pub state128 : List ℕ → Fox128
state128 block =
    record {
      ll = joined (take 4 block);
      lr = joined (take 4 (drop 4 block));
      rl = joined (take 4 (drop 8 block));
      rr = joined (take 4 (drop 12 block));
    }

-- the bytes of a state, for each cipher
unfoldable pub bytes64 : Fox64 → List ℕ
bytes64 x = split 4 x.l ++ split 4 x.r

unfoldable pub bytes128 : Fox128 → List ℕ
bytes128 x = split 4 x.ll ++ split 4 x.lr ++ split 4 x.rl ++ split 4 x.rr

-- a block's bytes as a state of the cipher (64, or else 128), and a state's bytes
unfoldable pub state : ℕ → List ℕ → State
state cipher block = cond (eqb cipher 64) (Of64 (state64 block)) (Of128 (state128 block))

unfoldable pub bytes : State → List ℕ
bytes (Of64 x) = bytes64 x
bytes (Of128 x) = bytes128 x

-- a block sealed or opened with a list of round keys
unfoldable pub turn_with : Bool → ℕ → List ℕ → List ℕ → List ℕ
turn_with sealing cipher rks block = bytes (turned sealing rks (state cipher block))

abbrev pub seal_with : ℕ → List ℕ → List ℕ → List ℕ
seal_with = turn_with true

abbrev pub open_with : ℕ → List ℕ → List ℕ → List ℕ
open_with = turn_with false

-- a block sealed or opened with the round keys of a key
abbrev pub turn_block : Bool → ℕ → ℕ → List ℕ → List ℕ → List ℕ
turn_block sealing cipher rounds key block = turn_with sealing cipher (round_keys cipher rounds key) block

abbrev pub seal_block : ℕ → ℕ → List ℕ → List ℕ → List ℕ
seal_block = turn_block true

abbrev pub open_block : ℕ → ℕ → List ℕ → List ℕ → List ℕ
open_block = turn_block false

-- a block of the cipher's size
pub record BlockOf (c : ℕ) (block : List ℕ) : Type 0 where
  pub size : length block ≡ block_size c
  pub bytes : Bytes block
