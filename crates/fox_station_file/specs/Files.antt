-- What the station's exports on run files promise, for all inputs: the refusal number, the count and the place, which go through numbers that the caller
-- lends, and every byte of the output.
-- Assumes nothing.
use Rattle.std.specs.Prelude.{◌≡◌, List, [], ◌∷◌, ℕ, ◌-◌, ◌^◌, length, get_or, Option, Some, None}
use Rattle.fox_key_schedule.specs.Schedule.{round_keys}
use Rattle.fox_refusals.specs.Answer.{Answer}
use Rattle.fox_run_file.specs.declared.place.Place.{Place}
use Rattle.fox_run_file.specs.Places.{passed_over}
use Rattle.fox_run_file.specs.Promise.{TellsSize, WritesFileWith, TakesUpWith, next_at, read_at, read_output, number_of, count_of, place_of}

-- the place that three words hold
unfoldable pub place_in : List ℕ → Place
place_in words = record { at = get_or words 0 0; scans = get_or words 1 0; offset = get_or words 2 0 }

-- an answer's refusal number and its count
pub record CountHanded (a : Answer) (n r : ℕ) : Type 0 where
  pub refusal : r ≡ a.refusal
  pub count : n ≡ a.count

-- how long a file will be, from cipher, rounds and the lengths of the scans
abbrev pub SizeHanded : ℕ → ℕ → List ℕ → ℕ → ℕ → Type 0
SizeHanded cipher rounds sizes count r = TellsSize cipher rounds sizes (record { refusal = r; count = count })

-- a file written, from cipher, rounds, key bytes, counter block, the plain scans joined and their lengths, with the output before and after
abbrev pub WriteHanded : ℕ → ℕ → List ℕ → List ℕ → List ℕ → List ℕ → List ℕ → List ℕ → ℕ → ℕ → Type 0
WriteHanded cipher rounds key counter input sizes before after count r =
    WritesFileWith cipher rounds (length key) (round_keys cipher rounds key) counter input sizes before after (record { refusal = r; count = count })

-- a file taken up, from cipher, rounds, key bytes and file, with the words of the place after
abbrev pub TakeUpHanded : ℕ → ℕ → List ℕ → List ℕ → List ℕ → ℕ → Type 0
TakeUpHanded cipher rounds key file words r =
    TakesUpWith cipher rounds (length key) (round_keys cipher rounds key) file (record { refusal = r; place = place_in words })

-- the length of the scan that comes next, or at the end the largest number of 64 bits
abbrev pub length_of : Option ℕ → ℕ
length_of (Some n) = n
length_of None = 2 ^ 64 - 1

abbrev pub NextHanded : List ℕ → List ℕ → ℕ → Type 0
NextHanded file words r = r ≡ length_of (next_at file (place_in words))

-- the next scan read, from cipher, rounds, key bytes and file, with the words of the place and the output before and after
pub record ReadHanded (cipher rounds : ℕ) (key file words words-after before after : List ℕ) (n r : ℕ) : Type 0 where
  pub refusal : r ≡ number_of (read_at cipher rounds (length key) file (place_in words) (length before))
  pub count : n ≡ count_of (read_at cipher rounds (length key) file (place_in words) (length before))
  pub place : place_in words-after ≡ place_of (place_in words) (read_at cipher rounds (length key) file (place_in words) (length before))
  pub output : after ≡ read_output cipher rounds (length key) (round_keys cipher rounds key) file (place_in words) before

-- the next scan passed over, with the words of the place before and after
abbrev pub SkipHanded : List ℕ → List ℕ → List ℕ → Type 0
SkipHanded file words words-after = place_in words-after ≡ passed_over file (place_in words)

-- a call that read the next scan: refusal 0, as many bytes as it has, these bytes, and the place after it
pub record Gave (value : List ℕ) (next : Place) (words-after after : List ℕ) (n r : ℕ) : Type 0 where
  pub refusal : r ≡ 0
  pub count : n ≡ length value
  pub place : place_in words-after ≡ next
  pub output : after ≡ value

-- a call that read nothing: a number, count 0, and output and place as they were
pub record Kept (number : ℕ) (words words-after before after : List ℕ) (n r : ℕ) : Type 0 where
  pub refusal : r ≡ number
  pub count : n ≡ 0
  pub place : place_in words-after ≡ place_in words
  pub output : after ≡ before
