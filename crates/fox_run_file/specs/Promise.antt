-- What the run file's calls promise, whole, for all inputs: refusal number, count, place and every byte of the output. `With` marks a call from cipher, rounds,
-- key length and a list of round keys, as a prepared key holds them.
-- Assumes nothing.
use Rattle.std.specs.Prelude.{◌≡◌, ℕ, false, cond, ◌&&◌, List, Option, Some, None, eqb, length}
use Rattle.std.proofs.lemmas.List.Edits.{sets}
use Rattle.fox_refusals.specs.Refusals.{Refusal, refusal_of, for_run}
use Rattle.fox_refusals.specs.Answer.{Answer}
use Rattle.fox_run.specs.Run.{run_with}
use Rattle.fox_run_file.specs.declared.place.Place.{Place}
use Rattle.fox_run_file.specs.Outcomes.{Taken, Read, Opened, Refused, End}
use Rattle.fox_run_file.specs.Format.{cut_by, run_file}
use Rattle.fox_run_file.specs.Sizes.{file_size}
use Rattle.fox_run_file.specs.Says.{counter_in}
use Rattle.fox_run_file.specs.Refusals.{for_size, for_write, for_take_up}
use Rattle.fox_run_file.specs.Places.{first_place, no_place, at_scan, size_at, bytes_at, place_after}

-- the whole answer of a call that writes a text at the start of the output: its count is the text's length, and the bytes past the count stay
pub record Writes (refusals : List Refusal) (text before after : List ℕ) (r : Answer) : Type 0 where
  pub refusal : r.refusal ≡ refusal_of refusals
  pub count : r.count ≡ cond (eqb (refusal_of refusals) 0) (length text) 0
  pub output : after ≡ cond (eqb (refusal_of refusals) 0) (sets before 0 text) before

-- the file of counter block, plain scans joined and their lengths
abbrev pub WritesFileWith : ℕ → ℕ → ℕ → List ℕ → List ℕ → List ℕ → List ℕ → List ℕ → List ℕ → Answer → Type 0
WritesFileWith cipher rounds key_len rks counter input sizes before after r =
    Writes (for_write cipher rounds key_len (length counter) (length input) sizes (length before))
    (run_file cipher rounds rks counter (cut_by sizes input)) before after r

-- how long a file will be, as the count
pub record TellsSize (cipher rounds : ℕ) (sizes : List ℕ) (r : Answer) : Type 0 where
  pub refusal : r.refusal ≡ refusal_of (for_size cipher rounds sizes)
  pub count : r.count ≡ cond (eqb (refusal_of (for_size cipher rounds sizes)) 0) (file_size cipher rounds sizes) 0

-- a file taken up: its refusal, and the place where reading begins
pub record TakesUpWith (cipher rounds key_len : ℕ) (rks file : List ℕ) (r : Taken) : Type 0 where
  pub refusal : r.refusal ≡ refusal_of (for_take_up cipher rounds key_len rks file)
  pub place : r.place ≡ cond (eqb (refusal_of (for_take_up cipher rounds key_len rks file)) 0) (first_place cipher rounds) no_place

-- the length of the scan that comes next at a place, or none at the end
unfoldable pub next_at : List ℕ → Place → Option ℕ
next_at file place = cond (at_scan file place) (Some (size_at file place)) None

-- the refusal of reading the scan at a place into a buffer of so many bytes: that of a call that opens its stretch of the run
unfoldable pub read_refusal : ℕ → ℕ → ℕ → List ℕ → Place → ℕ → ℕ
read_refusal cipher rounds key_len file place out_len =
    refusal_of (for_run false cipher rounds key_len (length (counter_in cipher rounds file)) place.offset (size_at file place) out_len)

unfoldable pub read_at : ℕ → ℕ → ℕ → List ℕ → Place → ℕ → Read
read_at cipher rounds key_len file place out_len =
    let refusal = read_refusal cipher rounds key_len file place out_len in
    cond (at_scan file place) (cond (eqb refusal 0) (Opened (size_at file place) (place_after file place)) (Refused refusal)) End

-- the output after that: the scan's stretch of the run, opened, or as it was
abbrev pub read_output : ℕ → ℕ → ℕ → List ℕ → List ℕ → Place → List ℕ → List ℕ
read_output cipher rounds key_len rks file place before =
    cond (at_scan file place && eqb (read_refusal cipher rounds key_len file place (length before)) 0)
    (run_with cipher rks (counter_in cipher rounds file) place.offset (bytes_at file place)) before

-- the scan at a place read: how it ended, and the output
pub record ReadsWith (cipher rounds key_len : ℕ) (rks file : List ℕ) (place : Place) (before after : List ℕ) (r : Read) : Type 0 where
  pub answer : r ≡ read_at cipher rounds key_len file place (length before)
  pub output : after ≡ read_output cipher rounds key_len rks file place before

-- 01's number, the count, and the place that follows, of how a reading ended at a place
abbrev pub number_of : Read → ℕ
number_of (Opened n p) = 0
number_of (Refused n) = n
number_of End = 0

abbrev pub count_of : Read → ℕ
count_of (Opened n p) = n
count_of (Refused n) = 0
count_of End = 0

abbrev pub place_of : Place → Read → Place
place_of place (Opened n p) = p
place_of place (Refused n) = place
place_of place End = place
