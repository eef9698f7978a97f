-- The next scan, looked for at a place in a run file.
-- Assumes nothing.
use Rattle.std.specs.Prelude.{◌≡◌, true, false, List, ℕ, suc, ◌+◌, ◌≤◌, ◌<◌, length, take, drop, Option, MatchOption}
use Rattle.fox_run_file.specs.declared.place.Place.{Place}
use Rattle.fox_run_file.specs.declared.scan.Scan.{Scan}
use Rattle.fox_run_file.specs.Says.{head_in}
use Rattle.fox_run_file.specs.Places.{at_scan, size_at, bytes_at}

-- what holds of a scan that stands at a place: that one is there, where its bytes begin and how many they are, that it ends within the file, and that the place can be moved on.
-- The bytes follow
pub record Stands (file : List ℕ) (place : Place) (s : Scan) : Type 0 where
  pub there : at_scan file place ≡ true
  pub head : s.head ≡ head_in (suc place.scans) (drop place.at file)
  pub size : s.size ≡ size_at file place
  pub bytes : bytes_at file place ≡ take s.size (drop (place.at + s.head) file)
  pub ends : place.at + s.head + s.size < length file
  pub small : s.size ≤ 65536
  pub few : place.scans < 65535
  pub early : place.offset ≤ 1073741824

-- the place after it
abbrev pub moved_on : Place → Scan → Place
moved_on place s = record { at = place.at + s.head + s.size + 1; scans = place.scans + 1; offset = place.offset + s.size }

-- what looking for one gives: none where none stands there, and otherwise what holds of it
abbrev pub FindsAt : List ℕ → Place → Option Scan → Type 0
FindsAt file place r = MatchOption r (at_scan file place ≡ false) (Stands file place)
