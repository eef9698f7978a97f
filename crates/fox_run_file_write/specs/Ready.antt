-- What the parts of the writer need, where no refusal applies.
-- Assumes nothing.
use Rattle.std.specs.Prelude.{◌≡◌, ℕ, ◌+◌, ◌≤◌, false, List, length}
use Rattle.fox_refusals.specs.Refusals.{block_size, Keyed}
use Rattle.fox_server_key.specs.declared.prepared.Prepared.{Prepared}
use Rattle.fox_run_file.specs.Format.{close_name}
use Rattle.fox_run_file.specs.Sizes.{block_line_size, file_size, total, past_limit}

-- room for a file whose sealed bytes stand at `from`, and end where the file is to end
pub record FileRoom (cipher rounds : ℕ) (counter : List ℕ) (from : ℕ) (sizes out : List ℕ) : Type 0 where
  pub block : length counter ≡ block_size cipher
  pub limits : past_limit cipher rounds sizes ≡ false
  pub end : from + total sizes ≡ file_size cipher rounds sizes
  pub fits : file_size cipher rounds sizes ≤ length out

-- a key that is served, a text of so many bytes that has a tag, and room for the line `close`
pub record CloseRoom (p : Prepared) (at : ℕ) (out : List ℕ) : Type 0 where
  pub keyed : Keyed p.cipher p.rounds p.key_len
  pub text : at ≤ 1073741824
  pub fits : at + block_line_size close_name p.cipher ≤ length out

-- what a file of so many bytes is written from, and room for it
pub record ToWrite (p : Prepared) (counter input sizes out : List ℕ) (size : ℕ) : Type 0 where
  pub keyed : Keyed p.cipher p.rounds p.key_len
  pub block : length counter ≡ block_size p.cipher
  pub limits : past_limit p.cipher p.rounds sizes ≡ false
  pub all : total sizes ≡ length input
  pub end : size ≡ file_size p.cipher p.rounds sizes
  pub fits : file_size p.cipher p.rounds sizes ≤ length out
