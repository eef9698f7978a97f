-- A reader: what was taken of its file, the reader of the same file at another place, and what comes first in a file.
-- Assumes nothing.
use Rattle.std.specs.Prelude.{◌≡◌, ℕ, List, Option, Result, Ok, Err}
use Rattle.fox_refusals.specs.Answer.{number_of}
use Rattle.fox_refusals.specs.declared.refusal.Refusal.{Refusal}
use Rattle.fox_run_file.specs.declared.place.Place.{Place}
use Rattle.fox_run_file.specs.Outcomes.{Taken}
use Rattle.fox_run_file.specs.Places.{no_place, passed_over}
use Rattle.fox_run_file.specs.Promise.{TakesUpWith, next_at}
use Rattle.fox_run_file_reader.specs.declared.Reader.{Reader}

-- taking up a file without the file: a refused one has no reader
abbrev pub taken_of : Result Reader Refusal → Taken
taken_of (Ok r) = record { refusal = 0; place = r.place }
taken_of (Err refusal) = record { refusal = number_of refusal; place = no_place }

abbrev pub reader_at : Reader → Place → Reader
reader_at r place = record { file = r.file; place = place }

-- the next scan passed over
abbrev pub passed : Reader → Reader
passed r = reader_at r (passed_over r.file.now r.place)

-- a file taken up, and what comes next where reading begins
pub record TellsFirst (cipher rounds key_len : ℕ) (rks file : List ℕ) (r : Option ℕ) : Type 0 where
  pub taken : Taken
  pub takes : TakesUpWith cipher rounds key_len rks file taken
  pub next : r ≡ next_at file taken.place
