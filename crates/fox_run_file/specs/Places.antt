-- Places in a run file: where reading begins, whether a scan stands at a place, and the place after it.
-- Assumes nothing.
use Rattle.std.specs.Prelude.{ℕ, zero, suc, ◌+◌, ◌-◌, ◌^◌, Bool, cond, ◌&&◌, List, ltb, leb, drop}
use Rattle.fox_run_file.specs.declared.place.Place.{Place}
use Rattle.fox_run_file.specs.Sizes.{header_size}
use Rattle.fox_run_file.specs.Says.{is_scan, size_in, head_in, bytes_in}

-- after the header
unfoldable pub first_place : ℕ → ℕ → Place
first_place cipher rounds = record { at = header_size cipher rounds; scans = 0; offset = 0 }

-- where a refused reader stands: past the end of every file
unfoldable pub no_place : Place
no_place = record { at = 2 ^ 64 - 1; scans = 0; offset = 0 }

-- whether a whole scan, with the number that comes next, stands at a place
unfoldable pub at_scan : List ℕ → Place → Bool
at_scan file place = ltb place.scans 65535 && leb place.offset 1073741824 && is_scan (suc place.scans) (drop place.at file)

-- its length and its bytes
unfoldable pub size_at : List ℕ → Place → ℕ
size_at file place = size_in (suc place.scans) (drop place.at file)

unfoldable pub bytes_at : List ℕ → Place → List ℕ
bytes_at file place = bytes_in (suc place.scans) (drop place.at file)

-- the place after it
unfoldable pub place_after : List ℕ → Place → Place
place_after file place =
    record {
      at = place.at + head_in (suc place.scans) (drop place.at file) + suc (size_at file place);
      scans = suc place.scans;
      offset = place.offset + size_at file place;
    }

-- the place after the next scan, or the same place at the end
unfoldable pub passed_over : List ℕ → Place → Place
passed_over file place = cond (at_scan file place) (place_after file place) place

-- the place after so many scans were passed over, or read
unfoldable pub after_steps : List ℕ → ℕ → Place → Place
after_steps file zero place = place
after_steps file (suc k) place = after_steps file k (passed_over file place)
