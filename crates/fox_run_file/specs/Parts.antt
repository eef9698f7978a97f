-- What the parts of the run file's code promise each other.
-- Assumes nothing.
use Rattle.std.specs.Prelude.{◌≡◌, ℕ, ◌+◌, ◌≤◌, ◌<◌, Bool, cond, List, Option, Some, None, IfSome, eqb, length, drop}
use Rattle.std.proofs.lemmas.List.Edits.{sets}
use Rattle.fox_refusals.specs.Refusals.{refusal_of}
use Rattle.fox_refusals.specs.Answer.{Answer}
use Rattle.fox_text.specs.Ascii.{starts_with}
use Rattle.fox_text.specs.Fields.{decimal_line_text}
use Rattle.fox_run_file.specs.declared.scan.Scan.{Scan}
use Rattle.fox_run_file.specs.declared.scan.Scans.{Scans}
use Rattle.fox_run_file.specs.declared.sizes.Sizes.{Sizes}
use Rattle.fox_run_file.specs.Sizes.{total, file_size, past_limit}
use Rattle.fox_run_file.specs.Says.{is_block_line, block_in, is_scan, head_in, size_in, scans_in, after_scans}
use Rattle.fox_run_file.specs.Refusals.{for_write}

-- a line of a name and a block that was looked for at the start of a text: whether it is there; its bytes, if any, are at the start of the output
pub record ReadsBlock (name : List ℕ) (cipher : ℕ) (t before after : List ℕ) (r : Bool) : Type 0 where
  pub right : r ≡ is_block_line name cipher t
  pub bytes : after ≡ sets before 0 (block_in name cipher t)

-- a line of a name and a number that was looked for at the start of a text: how many bytes it has, if it is there
pub record FindsLine (name : List ℕ) (number : ℕ) (t : List ℕ) (r : Option ℕ) : Type 0 where
  pub is : r ≡ cond (starts_with (decimal_line_text name number) t) (Some (length (decimal_line_text name number))) None
  pub within : IfSome r (λ n. n ≤ length t)

-- how many bytes come before those of a scan at the start of a text, and how many bytes it has
abbrev pub scan_in : ℕ → List ℕ → Scan
scan_in number t = record { head = head_in number t; size = size_in number t }

-- a scan that was looked for at the start of a text: it is found where a whole one is there, and ends within the text
pub record FindsScan (number : ℕ) (t : List ℕ) (r : Option Scan) : Type 0 where
  pub is : r ≡ cond (is_scan number t) (Some (scan_in number t)) None
  pub small : IfSome r (λ s. s.size ≤ 65536)
  pub ends : IfSome r (λ s. s.head + s.size < length t)

-- the whole scans of a file from a place on
pub record PassesScans (file : List ℕ) (at : ℕ) (r : Scans) : Type 0 where
  pub number : r.number ≡ length (scans_in 65535 0 (drop at file))
  pub rest : drop r.at file ≡ after_scans 65535 0 (drop at file)
  pub few : r.number ≤ 65535
  pub within : at ≤ length file → r.at ≤ length file

-- the lengths of scans added up, for a file of this cipher and these rounds: none past a limit
abbrev pub sizes_in : ℕ → ℕ → List ℕ → Sizes
sizes_in cipher rounds sizes = record { total = total sizes; size = file_size cipher rounds sizes }

pub record Sized (cipher rounds : ℕ) (sizes : List ℕ) (r : Option Sizes) : Type 0 where
  pub is : r ≡ cond (past_limit cipher rounds sizes) None (Some (sizes_in cipher rounds sizes))

-- whether a file may be written: the first refusal that applies, and how long the file will be, as the count
pub record MayWrite (cipher rounds key_len counter_len input_len : ℕ) (sizes : List ℕ) (out_len : ℕ) (r : Answer) : Type 0 where
  pub refusal : r.refusal ≡ refusal_of (for_write cipher rounds key_len counter_len input_len sizes out_len)
  pub count : r.count
      ≡ cond (eqb (refusal_of (for_write cipher rounds key_len counter_len input_len sizes out_len)) 0) (file_size cipher rounds sizes) 0
