-- What the parts of a run's code promise each other: a block of key stream XORed with the input, and a stretch XORed up to one place.
-- Assumes nothing.
use Rattle.std.specs.Prelude.{◌≡◌, List, ◌++◌, ℕ, ◌+◌, ◌≤◌, ◌<◌, length, take, drop}
use Rattle.fox_layers.specs.Words.{xor_each}
use Rattle.fox_run.specs.Run.{xor_from}

-- key stream XORed with the input, up to the end of the shorter: this XOR has r bytes and is at the front of the output, whose rest is as it was
pub record Xored (stream input before after : List ℕ) (r : ℕ) : Type 0 where
  pub count : r ≡ length (xor_each stream input)
  pub output : after ≡ xor_each stream input ++ drop r before

-- the first r bytes of the input, XORed with the stream from its byte n on, are at the front of the output, and the rest of the output is as it was
abbrev pub XoredTo : (ℕ → ℕ) → ℕ → List ℕ → List ℕ → ℕ → List ℕ → Type 0
XoredTo stream n input before r after = after ≡ xor_from stream n (take r input) ++ drop r before

-- the input XORed up to byte r, at least one byte where there are any; r is returned
pub record Part (stream : ℕ → ℕ) (n : ℕ) (input before after : List ℕ) (r : ℕ) : Type 0 where
  pub some : 0 < length input → 0 < r
  pub within : r ≤ length input
  pub output : XoredTo stream n input before r after

-- what a stretch needs with blocks of B bytes: of rounds, first counter block, place, input and output
pub record Ready (B rounds : ℕ) (counter : List ℕ) (n : ℕ) (input out : List ℕ) : Type 0 where
  pub some : 1 ≤ rounds
  pub few : rounds ≤ 255
  pub block : length counter ≡ B
  pub end : n + length input ≤ 1073741824
  pub output : length out ≡ length input
