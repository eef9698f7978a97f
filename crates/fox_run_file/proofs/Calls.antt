-- What the calls on one file give, in order: where a file was taken up, the reader stands after k steps, each a scan read or passed over, before scan k of the
-- file; reading it into a buffer of its length gives its bytes, opened from their place in the run, and leads to the next; a buffer of another length is
-- refused with 6; and after the last scan there is the end, again and again. A file that was refused has the end alone.
-- Assumes nothing.
use mathlib.Core.Path.{◌≡◌, refl, sym, ap, ap₂, ◌∙◌}
use mathlib.Core.Bool.{true, false}
use mathlib.Core.List.{List, [], flatten}
use Prim.Native.Nat.{ℕ, zero, suc, ◌+◌, ◌-◌, ◌≤◌, ◌<◌, ◌^◌}
use native.Mathlib.Omega.{arith}
use lib.ListN.{length, take, drop, get_or, drop_of_length-le}
use borrow.Author.Tests.{ne_eqb}
use Rattle.fox_refusals.specs.Refusals.{refusal_of, Keyed}
use Rattle.fox_refusals.proofs.Laws.Refusals.{stretched-served, wrong-output, to-open}
use Rattle.fox_run.specs.Run.{run_with}
use Rattle.fox_run.proofs.Laws.Served.{length-run_with}
use Rattle.fox_tag.specs.Tag.{tag_with}
use Rattle.fox_text.specs.Ascii.{codes, ascii, starts_with}
use Rattle.fox_text.specs.Fields.{decimal_line_text}
use Rattle.fox_run_file.specs.declared.place.Place.{Place}
use Rattle.fox_run_file.specs.Outcomes.{Taken}
use Rattle.std.specs.Prelude.{Some, None}
use Rattle.fox_run_file.specs.Outcomes.{Read, Opened, Refused, End}
use Rattle.fox_run_file.specs.Format.{scan_name, closed_by, turned_scans}
use Rattle.fox_run_file.specs.Sizes.{total}
use Rattle.fox_run_file.specs.Says.{counter_in, is_scan, scans_in, scans_of, before_close, close_in}
use Rattle.fox_run_file.specs.Refusals.{for_take_up, Told}
use Rattle.fox_run_file.specs.Places.{first_place, no_place, at_scan, size_at, bytes_at, place_after, passed_over, after_steps}
use Rattle.fox_run_file.specs.Values.{sizes_of, offset_of, IsRunFile}
use Rattle.fox_run_file.specs.Promise.{TakesUpWith, ReadsWith, next_at, read_at, read_refusal}
use Rattle.fox_run_file.proofs.Laws.Reading.{Standing, standing, finished, stays, step-last}
use Rattle.fox_run_file.proofs.Laws.Turned.{turned-at}
use Rattle.fox_run_file.proofs.Laws.Lengths.{limits, total-within, scan-small, scan-within}
use Rattle.fox_run_file.proofs.Right.{taken-is-written}
use Rattle.fox_run_file.proofs.Written.{scan-of-run}
use Rattle.fox_run_file.proofs.Changed.{changed-file-is-told, changed-file-told}

-- a scan is as long opened as it is sealed
pub opened-size : (c : ℕ) (rks counter : List ℕ) (k : ℕ) (ss : List (List ℕ)) → length (get_or (turned_scans c rks counter ss) k []) ≡ length (get_or ss k [])
opened-size c rks counter k ss = ap length (turned-at c rks counter k ss) ∙ length-run_with c rks counter (offset_of k ss) (get_or ss k [])

-- what a place tells

next-there : (file : List ℕ) (place : Place) → at_scan file place ≡ true → next_at file place ≡ Some (size_at file place)
unfolding next_at
next-there file place e = rw e

next-none : (file : List ℕ) (place : Place) → at_scan file place ≡ false → next_at file place ≡ None
unfolding next_at
next-none file place e = rw e

-- at the end nothing is read
module _ (c r k : ℕ) (rks file : List ℕ) (place : Place) {before after : List ℕ} {x : Read} (call : ReadsWith c r k rks file place before after x) where
  read_none : at_scan file place ≡ false → (x ≡ End) × (after ≡ before)
  unfolding read_at
  read_none e = (call.answer ∙ rw e, call.output ∙ rw e)

  read-served : at_scan file place ≡ true → read_refusal c r k file place (length before) ≡ 0
      → (x ≡ Opened (size_at file place) (place_after file place))
      × (after ≡ run_with c rks (counter_in c r file) place.offset (bytes_at file place))
  unfolding read_at
  read-served e z = (call.answer ∙ rw (e, z), call.output ∙ rw (e, z))

  read-refused : at_scan file place ≡ true → read_refusal c r k file place (length before) ≡ 6 → (x ≡ Refused 6) × (after ≡ before)
  unfolding read_at
  read-refused e z = (call.answer ∙ rw (e, z), call.output ∙ rw (e, z))

module _ (c r key_len : ℕ) (rks file : List ℕ) {t : Taken} (taken : TakesUpWith c r key_len rks file t) (served : t.refusal ≡ 0) where
  -- the place after k steps
  abbrev pub stand : ℕ → Place
  stand k = after_steps file k t.place

  starts : t.place ≡ first_place c r
  starts = taken.place ∙ rw (sym taken.refusal ∙ served)

  abbrev scans : List (List ℕ)
  scans = scans_of c r file

  abbrev written : Keyed c r key_len × IsRunFile c r rks file (counter_in c r file) scans
  written = taken-is-written c r key_len rks file (sym taken.refusal ∙ served)

  small : 0 + total (sizes_of scans) ≤ 1073741824
  small =
      let l = limits c r (sizes_of scans) written.1.values.limits in
      omega (arith, l.all, total-within c r (sizes_of scans))

  from_first : scans_in 65535 (first_place c r).scans (drop (first_place c r).at file) ≡ scans
  unfolding first_place scans_of
  from_first = refl

  first-number : (first_place c r).scans ≡ 0
  unfolding first_place
  first-number = refl

  first-offset : (first_place c r).offset ≡ 0
  unfolding first_place
  first-offset = refl

  before-scan : (k : ℕ) → k < length scans → Standing file (first_place c r) (stand k) scans k
  before-scan k h =
      rw starts (standing file 65535 k (first_place c r) scans from_first (omega (arith, first-number)) (omega (arith, first-offset, small)) h)

  at-end : at_scan file (stand (length scans)) ≡ false
  at-end = rw starts (finished file 65535 (first_place c r) scans from_first (omega (arith, first-number)) (omega (arith, first-offset, small)))

  -- scan k is told, with its length, and stands where its bytes are in the run
  pub length-told : (k : ℕ) → k < length scans → next_at file (stand k) ≡ Some (length (get_or scans k []))
  length-told k h = let s = before-scan k h in next-there file (stand k) s.there ∙ ap Some s.size

  pub offset-there : (k : ℕ) → k < length scans → (stand k).offset ≡ offset_of k scans
  offset-there k h = let s = before-scan k h in omega (arith, s.offset, first-offset)

  step-over : (k : ℕ) → at_scan file (stand k) ≡ true → passed_over file (stand k) ≡ place_after file (stand k)
  unfolding passed_over
  step-over k e = rw e

  -- passed over, it leads to the next place
  pub passed : (k : ℕ) → passed_over file (stand k) ≡ stand (suc k)
  passed k = sym (step-last file k t.place)

  module _ (k : ℕ) {before after : List ℕ} {x : Read} (h : k < length scans) (call : ReadsWith c r key_len rks file (stand k) before after x) where
    short : size_at file (stand k) ≤ 65536
    short = rw (before-scan k h).size (scan-small 65536 k scans (limits c r (sizes_of scans) written.1.values.limits).each)

    may-not : (length before ≡ length (get_or scans k []) → ⊥) → read_refusal c r key_len file (stand k) (length before) ≡ 6
    unfolding read_refusal
    may-not other =
        wrong-output false (stand k).offset written.0 (to-open key_len) written.1.values.block short (λ e. other (e ∙ (before-scan k h).size))

    may_read : length before ≡ length (get_or scans k []) → read_refusal c r key_len file (stand k) (length before) ≡ 0
    unfolding read_refusal
    may_read room =
        let s = before-scan k h in
        stretched-served false (record {
          keyed = written.0;
          long = to-open key_len;
          counter = written.1.values.block;
          short = short;
          output = room ∙ sym s.size;
          end = omega (arith, s.size, s.offset, first-offset, scan-within k scans h, small);
        })

    -- read into a buffer of its length, it is opened, and leads to the next place
    pub opened : length before ≡ length (get_or scans k [])
        → (x ≡ Opened (length (get_or scans k [])) (stand (suc k))) × (after ≡ get_or (turned_scans c rks (counter_in c r file) scans) k [])
    opened room =
        let s = before-scan k h in
        let z = may_read room in
        let y = read-served c r key_len rks file (stand k) call s.there z in (
          y.0 ∙ ap₂ (λ (n : ℕ) (p : Place). Opened n p) s.size (sym (step-over k s.there) ∙ passed k),
          y.1
              ∙ ap₂ (λ (n : ℕ) (l : List ℕ). run_with c rks (counter_in c r file) n l) (offset-there k h) s.bytes
              ∙ sym (turned-at c rks (counter_in c r file) k scans),
        )

    -- which is its stretch of the whole run opened
    pub opened-stretch : length before ≡ length (get_or scans k [])
        → after ≡ take (length (get_or scans k [])) (drop (offset_of k scans) (run_with c rks (counter_in c r file) 0 (flatten scans)))
    opened-stretch room = (opened room).1 ∙ scan-of-run c rks (counter_in c r file) k scans

    -- a buffer of another length is refused with 6, and stays as it was
    pub other_length : (length before ≡ length (get_or scans k []) → ⊥) → (x ≡ Refused 6) × (after ≡ before)
    other_length other =
        let s = before-scan k h in
        read-refused c r key_len rks file (stand k) call s.there (may-not other)

  -- after the last scan there is the end, however often it is asked for, and nothing is read
  pub ended : next_at file (stand (length scans)) ≡ None
  ended = next-none file (stand (length scans)) at-end

  pub ended-again : (j : ℕ) → stand (length scans + j) ≡ stand (length scans)
  ended-again zero = ap stand (omega arith)
  ended-again (suc j) =
      let one_more : length scans + suc j ≡ suc (length scans + j) = omega arith in
      ap stand one_more ∙ sym (passed (length scans + j)) ∙ ap (passed_over file) (ended-again j) ∙ stays file (stand (length scans)) at-end

  pub read-at-end : {before after : List ℕ} {x : Read} → ReadsWith c r key_len rks file (stand (length scans)) before after x
      → (x ≡ End) × (after ≡ before)
  read-at-end call = read_none c r key_len rks file (stand (length scans)) call at-end

-- a refused file has the end alone

nothing-scanned : (n : ℕ) → is_scan n [] ≡ false
unfolding is_scan starts_with decimal_line_text scan_name ascii codes
nothing-scanned n = refl

module _ (c r key_len : ℕ) (rks file : List ℕ) {t : Taken} (taken : TakesUpWith c r key_len rks file t) (refused : t.refusal ≡ 0 → ⊥)
    (long : length file < 2 ^ 64) where
  nowhere : t.place ≡ no_place
  nowhere = taken.place ∙ rw (ne_eqb (refusal_of (for_take_up c r key_len rks file)) 0 (λ e. refused (taken.refusal ∙ e)))

  none-there : at_scan file t.place ≡ false
  unfolding no_place at_scan
  none-there = rw (nowhere, drop_of_length-le file {i = 2 ^ 64 - 1} (omega arith)) (nothing-scanned 1)

  pub refused-ended : next_at file t.place ≡ None
  refused-ended = next-none file t.place none-there

  pub refused-stays : passed_over file t.place ≡ t.place
  refused-stays = stays file t.place none-there

  pub refused-reads : {before after : List ℕ} {x : Read} → ReadsWith c r key_len rks file t.place before after x → (x ≡ End) × (after ≡ before)
  refused-reads call = read_none c r key_len rks file t.place call none-there

-- a file that was taken up, and another text before its line `close`: it is taken up only where its tag is the same, and refused where it is not

module _ (c r key_len : ℕ) (rks file text : List ℕ) {t u : Taken} (taken : TakesUpWith c r key_len rks file t) (served : t.refusal ≡ 0)
    (again : TakesUpWith c r key_len rks (closed_by (close_in c file) text) u) where
  pub call-changed-served : u.refusal ≡ 0 → tag_with c rks text ≡ tag_with c rks (before_close c file)
  call-changed-served e = changed-file-is-told c r key_len rks file text (sym taken.refusal ∙ served) (sym again.refusal ∙ e)

  pub call-changed-refused : (tag_with c rks text ≡ tag_with c rks (before_close c file) → ⊥) → Told u.refusal
  call-changed-refused other = rw again.refusal (changed-file-told c r key_len rks file text (sym taken.refusal ∙ served) other)
