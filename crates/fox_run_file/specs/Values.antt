-- The values that a run file is written from, which of them are in range, what a file says of them, and when a file is one that is written from values.
-- Assumes nothing.
use Rattle.std.specs.Prelude.{◌≡◌, ℕ, zero, suc, ◌+◌, ◌<◌, true, false, List, [], ◌∷◌, length}
use Rattle.fox_layers.specs.Words.{Bytes}
use Rattle.fox_refusals.specs.Refusals.{refusal_of, block_size, Keyed}
use Rattle.fox_run_file.specs.Format.{unclosed, closed_by, file_of, turned_scans, run_file}
use Rattle.fox_run_file.specs.Sizes.{past_limit}
use Rattle.fox_run_file.specs.Says.{is_header, counter_in, scans_of, is_rest, before_close, close_in}
use Rattle.fox_run_file.specs.Refusals.{for_take_up}

-- the lengths of scans
unfoldable pub sizes_of : List (List ℕ) → List ℕ
sizes_of [] = []
sizes_of (s ∷ ss) = length s ∷ sizes_of ss

-- where scan number k, counted from 0, begins in the run: after the bytes of the scans before it
unfoldable pub offset_of : ℕ → List (List ℕ) → ℕ
offset_of zero ss = 0
offset_of (suc k) [] = 0
offset_of (suc k) (s ∷ ss) = length s + offset_of k ss

-- cipher and rounds of at most five digits, as a file's first lines can have them
pub record Settings (c r : ℕ) : Type 0 where
  pub cipher : c < 100000
  pub rounds : r < 100000

-- a counter block of the cipher's size, and scans within the limits
pub record InRange (cipher rounds : ℕ) (counter : List ℕ) (scans : List (List ℕ)) : Type 0 where
  pub block : length counter ≡ block_size cipher
  pub bytes : Bytes counter
  pub limits : past_limit cipher rounds (sizes_of scans) ≡ false

-- a file that is right in all but perhaps its tag, and says this counter block, these sealed scans, these bytes before the line `close` and this tag
pub record Says (cipher rounds : ℕ) (file counter : List ℕ) (sealed : List (List ℕ)) (before stored : List ℕ) : Type 0 where
  pub header : is_header cipher rounds file ≡ true
  pub rest : is_rest cipher rounds file ≡ true
  pub block : counter_in cipher rounds file ≡ counter
  pub scans : scans_of cipher rounds file ≡ sealed
  pub text : before_close cipher file ≡ before
  pub tag : close_in cipher file ≡ stored

-- two sets of values are the same
pub record SameValues (c₁ c₂ r₁ r₂ : ℕ) (counter₁ counter₂ : List ℕ) (scans₁ scans₂ : List (List ℕ)) : Type 0 where
  pub cipher : c₁ ≡ c₂
  pub rounds : r₁ ≡ r₂
  pub counter : counter₁ ≡ counter₂
  pub scans : scans₁ ≡ scans₂

-- a file is written: it is the text of what it says, closed by the tag that it says, and what it says is in range
pub record IsWritten (cipher rounds : ℕ) (file : List ℕ) : Type 0 where
  pub text : file ≡ closed_by (close_in cipher file) (unclosed cipher rounds (counter_in cipher rounds file) (scans_of cipher rounds file))
  pub before_close : before_close cipher file ≡ unclosed cipher rounds (counter_in cipher rounds file) (scans_of cipher rounds file)
  pub values : InRange cipher rounds (counter_in cipher rounds file) (scans_of cipher rounds file)
  pub tag : length (close_in cipher file) ≡ block_size cipher
  pub bytes : Bytes (close_in cipher file)

-- a file is the one that is written, with these round keys, of this counter block and of sealed scans, or of the same scans opened; they are in range
pub record IsRunFile (cipher rounds : ℕ) (rks file counter : List ℕ) (scans : List (List ℕ)) : Type 0 where
  pub values : InRange cipher rounds counter scans
  pub text : file ≡ file_of cipher rounds rks counter scans
  pub plain_values : InRange cipher rounds counter (turned_scans cipher rks counter scans)
  pub plain_text : file ≡ run_file cipher rounds rks counter (turned_scans cipher rks counter scans)

-- a file is taken up exactly where it is one that is written from values in range, with a key that is not refused: taken up, it is the one of what it says;
-- and the file of any such values, from sealed scans or from plain ones, is taken up
pub record TakenExactly (cipher rounds key_len : ℕ) (rks file : List ℕ) : Type 0 where
  pub is_written : refusal_of (for_take_up cipher rounds key_len rks file) ≡ 0
      → Keyed cipher rounds key_len × IsRunFile cipher rounds rks file (counter_in cipher rounds file) (scans_of cipher rounds file)
  pub sealed_taken : (counter : List ℕ) (sealed : List (List ℕ)) → Keyed cipher rounds key_len → InRange cipher rounds counter sealed
      → file ≡ file_of cipher rounds rks counter sealed → refusal_of (for_take_up cipher rounds key_len rks file) ≡ 0
  pub plain_taken : (counter : List ℕ) (plain : List (List ℕ)) → Keyed cipher rounds key_len → InRange cipher rounds counter plain
      → file ≡ run_file cipher rounds rks counter plain → refusal_of (for_take_up cipher rounds key_len rks file) ≡ 0
