-- How calls on a run file end: taking it up, and reading its next scan. Each as the promises state it, with 01's refusal numbers, and as it is told by what
-- the code answers.
-- Assumes nothing.
use Rattle.std.specs.Prelude.{ℕ, Option, Some, None, Result, Ok, Err}
use Rattle.fox_refusals.specs.Answer.{number_of}
use Rattle.fox_refusals.specs.declared.refusal.Refusal.{Refusal}
use Rattle.fox_run_file.specs.declared.place.Place.{Place}
use Rattle.fox_run_file.specs.declared.reading.Opened.{Opened as OpenedScan}
use Rattle.fox_run_file.specs.Places.{no_place}

-- a file taken up: the refusal number, 0 for success, and the place of the first scan, or one that no file has where the file is refused
pub record Taken : Type 0 where
  pub refusal : ℕ
  pub place : Place

abbrev pub taken_of : Result Place Refusal → Taken
taken_of (Ok place) = record { refusal = 0; place = place }
taken_of (Err refusal) = record { refusal = number_of refusal; place = no_place }

-- the next scan read: it was opened, with so many bytes, and reading goes on at a place; it was refused, and the place stays; or there is none
pub data Read : Type 0 where
  Opened : ℕ → Place → Read
  Refused : ℕ → Read
  End : Read

abbrev pub read_of : Result (Option OpenedScan) Refusal → Read
read_of (Ok (Some scan)) = Opened scan.size scan.next
read_of (Ok None) = End
read_of (Err refusal) = Refused (number_of refusal)
