-- The refusals of the run file's calls (02, order 4), in their order. 1 to 3 are those of the key, 13 that of a short key to seal with, 4 of the counter block,
-- 10 of a tag.
-- Assumes nothing.
use Rattle.std.specs.Prelude.{◌≡◌, ◌⊎◌, ℕ, true, not, ◌||◌, List, [], ◌∷◌, ◌++◌, ltb}
use Rattle.fox_refusals.specs.Refusals.{Refusal, differs, wrong_cipher, wrong_rounds, wrong_block_length, other_tag, for_key, for_turn, Keyed}
use Rattle.fox_tag.specs.Tag.{tag_with}
use Rattle.fox_run_file.specs.Sizes.{total, file_size, past_limit}
use Rattle.fox_run_file.specs.Says.{is_header, is_rest, before_close, close_in}

-- 12, where a file is to be written: past a limit; or past one, or the lengths of the scans do not add up to the data
unfoldable pub large_file : ℕ → ℕ → List ℕ → Refusal
large_file cipher rounds sizes = record { number = 12; applies = past_limit cipher rounds sizes }

unfoldable pub wrong_sizes : ℕ → ℕ → List ℕ → ℕ → Refusal
wrong_sizes cipher rounds sizes input_len = record { number = 12; applies = past_limit cipher rounds sizes || differs (total sizes) input_len }

-- 6: the output has no room for the file
unfoldable pub small_output : ℕ → ℕ → List ℕ → ℕ → Refusal
small_output cipher rounds sizes out_len = record { number = 6; applies = ltb out_len (file_size cipher rounds sizes) }

-- 11: header broken, or not of this cipher and these rounds
unfoldable pub broken_header : ℕ → ℕ → List ℕ → Refusal
broken_header cipher rounds file = record { number = 11; applies = not (is_header cipher rounds file) }

-- 12: rest broken, cut short, or past a limit
unfoldable pub broken_rest : ℕ → ℕ → List ℕ → Refusal
broken_rest cipher rounds file = record { number = 12; applies = not (is_rest cipher rounds file) }

-- the refusals of a call that tells how long a file will be, from the lengths of its scans
unfoldable pub for_size : ℕ → ℕ → List ℕ → List Refusal
for_size cipher rounds sizes = wrong_cipher cipher ∷ wrong_rounds rounds ∷ large_file cipher rounds sizes ∷ []

-- the refusals of a call that writes a file, which seals
unfoldable pub for_write : ℕ → ℕ → ℕ → ℕ → ℕ → List ℕ → ℕ → List Refusal
for_write cipher rounds key_len counter_len input_len sizes out_len =
    for_turn true cipher rounds key_len
    ++ (wrong_block_length cipher counter_len ∷ wrong_sizes cipher rounds sizes input_len ∷ small_output cipher rounds sizes out_len ∷ [])

-- the refusals of a call that takes up a file
unfoldable pub for_take_up : ℕ → ℕ → ℕ → List ℕ → List ℕ → List Refusal
for_take_up cipher rounds key_len rks file =
    for_key cipher rounds key_len
    ++ (broken_header cipher rounds file ∷ broken_rest cipher rounds file ∷ other_tag (tag_with cipher rks (before_close cipher file)) (close_in cipher file) ∷ [])

-- what holds where a call that takes up a file meets no refusal
pub record Passes (cipher rounds key_len : ℕ) (rks file : List ℕ) : Type 0 where
  pub keyed : Keyed cipher rounds key_len
  pub header : is_header cipher rounds file ≡ true
  pub rest : is_rest cipher rounds file ≡ true
  pub tag : tag_with cipher rks (before_close cipher file) ≡ close_in cipher file

-- a file is refused, and not for its key
abbrev pub Told : ℕ → Type 0
Told n = (n ≡ 10) ⊎ (n ≡ 11) ⊎ (n ≡ 12)
