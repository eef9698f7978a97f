-- Scan after scan, from a place on: after k steps the reader stands before scan number k of those that the text from the place on has, since each step leads
-- to what follows the scan at the place; and after all of them no scan stands there.
-- Assumes nothing.
use mathlib.Core.Path.{◌≡◌, refl, sym, ap, ◌∙◌}
use mathlib.Core.Bool.{true, false, ◌&&◌, and-false}
use mathlib.Core.List.{List, [], ◌∷◌}
use Prim.Native.Nat.{ℕ, zero, suc, ◌+◌, ◌≤◌, ◌<◌}
use native.Mathlib.Omega.{arith}
use lib.Dec.{ltb, leb}
use lib.ListN.{length, drop, get_or}
use lib.Seq.{drop-drop}
use borrow.Author.Tests.{lt-ltb, le-ltb, le-leb}
use Rattle.fox_text.proofs.Laws.Tests.{by-test}
use Rattle.fox_run_file.specs.declared.place.Place.{Place}
use Rattle.fox_run_file.specs.Sizes.{total}
use Rattle.fox_run_file.specs.Says.{is_scan, size_in, head_in, after_scan, scans_in}
use Rattle.fox_run_file.specs.Places.{at_scan, size_at, bytes_at, place_after, passed_over, after_steps}
use Rattle.fox_run_file.specs.Values.{sizes_of, offset_of}
use Rattle.fox_run_file.proofs.Laws.Scan.{bytes-length}

-- the place after k steps: a scan stands there, with these bytes, after k scans more, and so many bytes further in the run
pub record Standing (file : List ℕ) (place q : Place) (scans : List (List ℕ)) (k : ℕ) : Type 0 where
  pub there : at_scan file q ≡ true
  pub bytes : bytes_at file q ≡ get_or scans k []
  pub size : size_at file q ≡ length (get_or scans k [])
  pub number : q.scans ≡ place.scans + k
  pub offset : q.offset ≡ place.offset + offset_of k scans

module _ (file : List ℕ) where
  rest-after : (place : Place) → drop (place_after file place).at file ≡ after_scan (suc place.scans) (drop place.at file)
  unfolding place_after after_scan size_at
  rest-after place =
      let t = drop place.at file in
      let n = suc place.scans in
      let e : place.at + (head_in n t + suc (size_in n t)) ≡ place.at + head_in n t + suc (size_in n t) = omega arith in
      sym (drop-drop (suc (size_in n t)) (head_in n t) t ∙ drop-drop (head_in n t + suc (size_in n t)) place.at file ∙ ap (λ (m : ℕ). drop m file) e)

  size-first : (place : Place) → is_scan (suc place.scans) (drop place.at file) ≡ true → size_at file place ≡ length (bytes_at file place)
  unfolding size_at bytes_at
  size-first place e = sym (bytes-length (suc place.scans) (drop place.at file) e)

  some_first : (most : ℕ) (place : Place) → is_scan (suc place.scans) (drop place.at file) ≡ true
      → scans_in (suc most) place.scans (drop place.at file)
      ≡ bytes_at file place ∷ scans_in most (place_after file place).scans (drop (place_after file place).at file)
  unfolding scans_in bytes_at place_after
  some_first most place e = rw e (ap (λ (t : List ℕ). bytes_at file place ∷ scans_in most (suc place.scans) t) (sym (rest-after place)))

  none_first : (most : ℕ) (place : Place) → is_scan (suc place.scans) (drop place.at file) ≡ false
      → scans_in (suc most) place.scans (drop place.at file) ≡ []
  unfolding scans_in
  none_first most place e = rw e

  nothing_left : {P : Type 0} (place : Place) (s : List ℕ) (ss : List (List ℕ)) → scans_in zero place.scans (drop place.at file) ≡ s ∷ ss → P
  unfolding scans_in
  nothing_left place s ss is = let z : ◌≡◌ {A = ℕ} 0 1 = cc in absurd (omega arith)

  -- a place before at least one scan: it stands there, and those after it are the rest
  record Before (most : ℕ) (place : Place) (s : List ℕ) (ss : List (List ℕ)) : Type 0 where
    there : at_scan file place ≡ true
    bytes : bytes_at file place ≡ s
    size : size_at file place ≡ length s
    next : passed_over file place ≡ place_after file place
    number : (place_after file place).scans ≡ suc place.scans
    offset : (place_after file place).offset ≡ place.offset + length s
    later : scans_in most (place_after file place).scans (drop (place_after file place).at file) ≡ ss

  there-before : (most : ℕ) (place : Place) (s : List ℕ) (ss : List (List ℕ)) → is_scan (suc place.scans) (drop place.at file) ≡ true
      → scans_in (suc most) place.scans (drop place.at file) ≡ s ∷ ss → place.scans < 65535 → place.offset ≤ 1073741824 → Before most place s ss
  unfolding at_scan passed_over place_after
  there-before most place s ss e is few near =
      let first = some_first most place e in
      let bytes : bytes_at file place ≡ s = cc in
      let size = size-first place e ∙ ap length bytes in
      let there : at_scan file place ≡ true = rw (lt-ltb place.scans 65535 few, le-leb place.offset 1073741824 near) e in
      record {
        there = there;
        bytes = bytes;
        size = size;
        next = rw there;
        number = refl;
        offset = rw size;
        later = cc;
      }

  before : (most : ℕ) (place : Place) (s : List ℕ) (ss : List (List ℕ)) → scans_in (suc most) place.scans (drop place.at file) ≡ s ∷ ss
      → suc most + place.scans ≡ 65535 → place.offset ≤ 1073741824 → Before most place s ss
  before most place s ss is fuel near =
      by-test (is_scan (suc place.scans) (drop place.at file)) (λ e. there-before most place s ss e is (omega arith) near)
      (λ e. let w = none_first most place e in let z : ◌≡◌ {A = ℕ} 0 1 = cc in absurd (omega arith))

  pub standing : (most k : ℕ) (place : Place) (scans : List (List ℕ)) → scans_in most place.scans (drop place.at file) ≡ scans
      → most + place.scans ≡ 65535 → place.offset + total (sizes_of scans) ≤ 1073741824 → k < length scans
      → Standing file place (after_steps file k place) scans k
  unfolding after_steps offset_of total sizes_of
  standing most k place [] is fuel fits h = absurd (omega arith)
  standing zero k place (s ∷ ss) is fuel fits h = nothing_left place s ss is
  standing (suc most) zero place (s ∷ ss) is fuel fits h =
      let b = before most place s ss is fuel (omega arith) in
      record { there = b.there; bytes = b.bytes; size = b.size; number = omega arith; offset = omega arith }
  standing (suc most) (suc k) place (s ∷ ss) is fuel fits h =
      let b = before most place s ss is fuel (omega arith) in
      let r = standing most k (place_after file place) ss b.later (omega arith) (omega arith) (omega arith) in
      rw b.next (record { there = r.there; bytes = r.bytes; size = r.size; number = omega arith; offset = omega arith })

  -- no scan stands at a place from which there are none
  pub none-there : (most : ℕ) (place : Place) → scans_in most place.scans (drop place.at file) ≡ [] → most + place.scans ≡ 65535
      → at_scan file place ≡ false
  unfolding at_scan
  none-there zero place is fuel = rw (le-ltb place.scans 65535 (omega arith))
  none-there (suc most) place is fuel =
      by-test (is_scan (suc place.scans) (drop place.at file))
      (λ e. let w = some_first most place e in let z : ◌≡◌ {A = ℕ} 0 1 = cc in absurd (omega arith))
      (λ e. rw e (and-false (ltb place.scans 65535 && leb place.offset 1073741824)))

  -- after as many steps as there are scans, none stands there
  pub finished : (most : ℕ) (place : Place) (scans : List (List ℕ)) → scans_in most place.scans (drop place.at file) ≡ scans
      → most + place.scans ≡ 65535 → place.offset + total (sizes_of scans) ≤ 1073741824 → at_scan file (after_steps file (length scans) place) ≡ false
  unfolding after_steps total sizes_of
  finished most place [] is fuel fits = none-there most place is fuel
  finished zero place (s ∷ ss) is fuel fits = nothing_left place s ss is
  finished (suc most) place (s ∷ ss) is fuel fits =
      let b = before most place s ss is fuel (omega arith) in
      ap (λ (p : Place). at_scan file (after_steps file (length ss) p)) b.next
      ∙ finished most (place_after file place) ss b.later (omega arith) (omega arith)

  -- there the place stays
  pub stays : (place : Place) → at_scan file place ≡ false → passed_over file place ≡ place
  unfolding passed_over
  stays place e = rw e

  -- one step more at the end
  pub step-last : (k : ℕ) (place : Place) → after_steps file (suc k) place ≡ passed_over file (after_steps file k place)
  unfolding after_steps
  step-last zero place = refl
  step-last (suc k) place = step-last k (passed_over file place)
