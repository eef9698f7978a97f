-- The next scan at a place: it is looked for only where the place can be moved on, and ends within the file, since a whole scan ends within its text.
-- Assumes nothing.
use mathlib.Core.Path.{◌≡◌, sym, ◌∙◌}
use mathlib.Core.Bool.{true, false, not, and-false, true≢false}
use mathlib.Core.List.{List}
use Prim.Native.Nat.{ℕ, suc, ◌+◌, ◌^◌, ◌≤◌, ◌<◌}
use native.Mathlib.Numerals.{add-one}
use native.Mathlib.Omega.{arith}
use lib.Dec.{ltb}
use lib.ListN.{length, drop, length-drop}
use borrow.Author.Tests.{lt-ltb, le-ltb, le-leb, lt-leb, not-true, not-false}
use Rattle.std.specs.Prelude.{Option, Some, None, is_some}
use Rattle.fox_run_file.specs.declared.place.Place.{Place}
use Rattle.fox_run_file.specs.declared.scan.Scan.{Scan}
use Rattle.fox_run_file.specs.Says.{is_scan, head_in}
use Rattle.fox_run_file.specs.Places.{at_scan, size_at, bytes_at, place_after}
use Rattle.fox_run_file.specs.Parts.{FindsScan}
use Rattle.fox_run_file.proofs.Laws.Scan.{none-found, found-is, found-head, found-size, bytes-found}
use Rattle.fox_run_file_read.specs.Found.{Stands, moved_on, FindsAt}

module _ (file : List ℕ) (place : Place) where
  pub none-many : 65535 ≤ place.scans → at_scan file place ≡ false
  unfolding at_scan
  none-many h = rw (le-ltb place.scans 65535 h)

  pub none-late : 1073741824 < place.offset → at_scan file place ≡ false
  unfolding at_scan
  none-late h = rw (lt-leb place.offset 1073741824 h, and-false (ltb place.scans 65535))

  module _ (few : place.scans < 65535) (early : place.offset ≤ 1073741824) where
    in_reach : at_scan file place ≡ is_scan (suc place.scans) (drop place.at file)
    unfolding at_scan
    in_reach = rw (lt-ltb place.scans 65535 few, le-leb place.offset 1073741824 early)

    pub found : (r : Option Scan) → FindsScan (place.scans + 1) (drop place.at file) r → FindsAt file place r
    unfolding size_at bytes_at
    found None r = in_reach ∙ rw add-one at (none-found (place.scans + 1) (drop place.at file) r)
    found (Some s) r =
        record {
          there = in_reach ∙ rw add-one at (found-is file place.at r);
          head = rw add-one at (found-head file place.at r);
          size = rw add-one at (found-size file place.at r);
          bytes = rw add-one at (bytes-found file place.at r);
          ends = omega (arith, r.ends, length-drop place.at file);
          small = r.small;
          few = few;
          early = early;
        }

-- what a test of what was found tells

pub absent : (file : List ℕ) (place : Place) (r : Option Scan) → FindsAt file place r → is_some r ≡ false → at_scan file place ≡ false
absent file place None none e = none
absent file place (Some s) stands e = absurd (true≢false e)

pub present : (file : List ℕ) (place : Place) (r : Option Scan) → FindsAt file place r → is_some r ≡ true → at_scan file place ≡ true
present file place None none e = absurd (true≢false (sym e))
present file place (Some s) stands e = stands.there

-- the place after a scan that stands at a place
pub moved : {file : List ℕ} {place : Place} {s : Scan} → Stands file place s → moved_on place s ≡ place_after file place
unfolding place_after
moved {file} {place} {s} r =
    let at : place.at + s.head + s.size + 1 ≡ place.at + head_in (suc place.scans) (drop place.at file) + suc (size_at file place) =
    omega (arith, r.head, r.size) in
    let offset : place.offset + s.size ≡ place.offset + size_at file place = omega (arith, r.size) in
    λ i. record { at = at i; scans = add-one place.scans i; offset = offset i }

-- no number of it is too large
pub movable : {file : List ℕ} {place : Place} {s : Scan} → Stands file place s → length file < 2 ^ 64
    → (place.at + s.head + s.size + 1 < 2 ^ 64) × (place.scans < 65535) × (place.offset + s.size < 2 ^ 64)
movable r long = (omega (arith, r.ends), r.few, omega (arith, r.early, r.small))
