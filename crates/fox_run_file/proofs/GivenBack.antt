-- The file of any values in range, with a key of any length from 0 to 32 bytes, the reader takes up and gives back, scan by scan, and then the end: its scans
-- are the plain scans sealed, and opened they are the plain scans again. So old files are read. And what the writer wrote is such a file: a served call has it
-- at the start of its output.
-- Assumes nothing.
use mathlib.Core.Path.{◌≡◌, sym, ap, ◌∙◌}
use mathlib.Core.List.{List, []}
use Prim.Native.Nat.{ℕ, suc, ◌≤◌, ◌<◌}
use native.Mathlib.Omega.{arith}
use lib.ListN.{length, take, get_or}
use Rattle.fox_layers.specs.Words.{Bytes}
use Rattle.fox_refusals.specs.Refusals.{refusal_of, Keyed}
use Rattle.fox_refusals.specs.Answer.{Answer}
use Rattle.fox_text.proofs.Laws.Stores.{take-stored}
use Rattle.fox_run_file.specs.Outcomes.{Taken}
use Rattle.std.specs.Prelude.{Some, None}
use Rattle.fox_run_file.specs.Outcomes.{Read, Opened}
use Rattle.fox_run_file.specs.Format.{turned_scans, cut_by, run_file}
use Rattle.fox_run_file.specs.Sizes.{file_size}
use Rattle.fox_run_file.specs.Says.{counter_in, scans_of}
use Rattle.fox_run_file.specs.Refusals.{for_write}
use Rattle.fox_run_file.specs.Places.{after_steps}
use Rattle.fox_run_file.specs.Values.{sizes_of, InRange}
use Rattle.fox_run_file.specs.Promise.{WritesFileWith, TakesUpWith, ReadsWith, next_at}
use Rattle.fox_run_file.proofs.Laws.Lengths.{length-cut-file, length-sizes, size-at, sizes-cut, sizes-turned}
use Rattle.fox_run_file.proofs.Laws.Refusals.{Writable, writable}
use Rattle.fox_run_file.proofs.Written.{written-taken, written-opened, run-file-says}
use Rattle.fox_run_file.proofs.Calls.{length-told, opened, ended}

module _ (c r k : ℕ) (rks counter : List ℕ) (plain : List (List ℕ)) (keyed : Keyed c r k) (range : InRange c r counter plain) {file : List ℕ}
    (is : file ≡ run_file c r rks counter plain) {t : Taken} (take-up : TakesUpWith c r k rks file t) where
  pub old-file-taken-up : t.refusal ≡ 0
  old-file-taken-up = take-up.refusal ∙ rw is (written-taken c r rks counter plain range k keyed)

  scans-are : scans_of c r file ≡ turned_scans c rks counter plain
  scans-are = rw is (run-file-says c r rks counter plain range).scans

  many : length (scans_of c r file) ≡ length plain
  many =
      sym (length-sizes (scans_of c r file)) ∙ ap (λ (ss : List (List ℕ)). length (sizes_of ss)) scans-are
      ∙ ap length (sizes-turned c rks counter plain) ∙ length-sizes plain

  size_of : (i : ℕ) → length (get_or (scans_of c r file) i []) ≡ length (get_or plain i [])
  size_of i =
      size-at i (scans_of c r file) ∙ ap (λ (ss : List (List ℕ)). get_or (sizes_of ss) i 0) scans-are
      ∙ ap (λ (ns : List ℕ). get_or ns i 0) (sizes-turned c rks counter plain) ∙ sym (size-at i plain)

  plain-again : turned_scans c rks (counter_in c r file) (scans_of c r file) ≡ plain
  plain-again = rw is (written-opened c r rks counter plain range)

  -- scan i, counted from 0, is told with its length
  pub old-file-told : (i : ℕ) → i < length plain → next_at file (after_steps file i t.place) ≡ Some (length (get_or plain i []))
  old-file-told i h = length-told c r k rks file take-up old-file-taken-up i (omega (arith, many)) ∙ ap Some (size_of i)

  -- read into a buffer of its length, it is the plain scan, and the next one follows
  pub old-file-read : (i : ℕ) {buffer out : List ℕ} {x : Read} → i < length plain → length buffer ≡ length (get_or plain i [])
      → ReadsWith c r k rks file (after_steps file i t.place) buffer out x
      → (x ≡ Opened (length (get_or plain i [])) (after_steps file (suc i) t.place)) × (out ≡ get_or plain i [])
  old-file-read i h room call =
      let y = opened c r k rks file take-up old-file-taken-up i (omega (arith, many)) call (room ∙ sym (size_of i)) in (
        y.0 ∙ ap (λ (n : ℕ). Opened n (after_steps file (suc i) t.place)) (size_of i),
        y.1 ∙ ap (λ (ss : List (List ℕ)). get_or ss i []) plain-again,
      )

  -- after the last of them there is the end
  pub old-file-ended : next_at file (after_steps file (length plain) t.place) ≡ None
  old-file-ended = rw (← many) (ended c r k rks file take-up old-file-taken-up)

module _ (c r k : ℕ) (rks counter input sizes : List ℕ) {before after : List ℕ} {w : Answer} (bytes : Bytes counter)
    (write : WritesFileWith c r k rks counter input sizes before after w) (served : w.refusal ≡ 0) where
  none : refusal_of (for_write c r k (length counter) (length input) sizes (length before)) ≡ 0
  none = sym write.refusal ∙ served

  known : Writable c r k (length counter) (length input) sizes (length before)
  known = writable c r k (length counter) (length input) sizes (length before) none

  abbrev plain : List (List ℕ)
  plain = cut_by sizes input

  abbrev file : List ℕ
  file = run_file c r rks counter plain

  long : length file ≡ file_size c r sizes
  long = length-cut-file c r rks counter input sizes known.counter (omega (arith, known.all))

  -- the file is at the start of the output, and its length is the count
  pub file-written : take w.count after ≡ file
  file-written =
      let count : w.count ≡ length file = write.count ∙ rw none in
      let fits : length file ≤ length before = omega (arith, long, known.room) in
      rw (count, write.output, none) (take-stored before file fits)

  range : InRange c r counter plain
  range = record { block = known.counter; bytes = bytes; limits = rw (sizes-cut sizes input (omega (arith, known.all))) known.limits }

  pub plain_size : (i : ℕ) → length (get_or (cut_by sizes input) i []) ≡ get_or sizes i 0
  plain_size i = size-at i plain ∙ ap (λ (ns : List ℕ). get_or ns i 0) (sizes-cut sizes input (omega (arith, known.all)))

  many-plain : length plain ≡ length sizes
  many-plain = sym (length-sizes plain) ∙ ap length (sizes-cut sizes input (omega (arith, known.all)))

  module _ {t : Taken} (take-up : TakesUpWith c r k rks (take w.count after) t) where
    abbrev F : List ℕ
    F = take w.count after

    pub taken-up : t.refusal ≡ 0
    taken-up = old-file-taken-up c r k rks counter plain known.keyed range file-written take-up

    -- scan i, counted from 0, is told with its length
    pub told_back : (i : ℕ) → i < length sizes → next_at F (after_steps F i t.place) ≡ Some (get_or sizes i 0)
    told_back i h =
        old-file-told c r k rks counter plain known.keyed range file-written take-up i (omega (arith, many-plain)) ∙ ap Some (plain_size i)

    -- read into a buffer of its length, it is the plain scan, and the next one follows
    pub given_back : (i : ℕ) {buffer out : List ℕ} {x : Read} → i < length sizes → length buffer ≡ get_or sizes i 0
        → ReadsWith c r k rks F (after_steps F i t.place) buffer out x
        → (x ≡ Opened (get_or sizes i 0) (after_steps F (suc i) t.place)) × (out ≡ get_or (cut_by sizes input) i [])
    given_back i h room call =
        let y = old-file-read c r k rks counter plain known.keyed range file-written take-up i (omega (arith, many-plain)) (room ∙ sym (plain_size i)) call in
        (y.0 ∙ ap (λ (n : ℕ). Opened n (after_steps F (suc i) t.place)) (plain_size i), y.1)

    -- after the last of them there is the end
    pub end_back : next_at F (after_steps F (length sizes) t.place) ≡ None
    end_back = rw (← many-plain) (old-file-ended c r k rks counter plain known.keyed range file-written take-up)
