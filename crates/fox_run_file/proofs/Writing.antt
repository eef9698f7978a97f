-- Calls that tell a file's size and that write one: they are served where nothing is past a limit, the lengths add up and there is room; the size that was
-- told is the room that is enough, and the count; and every file that is taken up with a key of 16 bytes or more is what such a call writes of its scans,
-- opened and joined.
-- Assumes nothing.
use mathlib.Core.Path.{◌≡◌, sym, ap, ◌∙◌}
use mathlib.Core.Bool.{false}
use mathlib.Core.List.{List, [], ◌∷◌, flatten}
use Prim.Native.Nat.{ℕ, ◌≤◌, ◌<◌}
use native.Mathlib.Omega.{arith}
use lib.ListN.{length, take}
use lib.Seq.{sets}
use Rattle.fox_refusals.specs.Refusals.{block_size, wrong_block_length, Keyed}
use Rattle.fox_refusals.specs.Answer.{Answer}
use Rattle.fox_refusals.proofs.Laws.Refusals.{short-key}
use Rattle.fox_text.proofs.Laws.Stores.{take-stored}
use Rattle.fox_run_file.specs.Outcomes.{Taken}
use Rattle.fox_run_file.specs.Format.{turned_scans, run_file, cut_by}
use Rattle.fox_run_file.specs.Sizes.{total, file_size, past_limit}
use Rattle.fox_run_file.specs.Says.{counter_in, scans_of}
use Rattle.fox_run_file.specs.Values.{sizes_of, IsRunFile}
use Rattle.fox_run_file.specs.Refusals.{wrong_sizes, small_output, for_write}
use Rattle.fox_run_file.specs.Promise.{TellsSize, WritesFileWith, TakesUpWith}
use Rattle.fox_run_file.proofs.Laws.Lengths.{length-cut-file}
use Rattle.fox_run_file.proofs.Laws.Cut.{total-joined, cut_again}
use Rattle.fox_run_file.proofs.Laws.Refusals.{Writable, writable-served, tellable, tellable-served}
use Rattle.fox_run_file.proofs.Right.{taken-is-written}

module _ (c r k : ℕ) (rks counter input sizes : List ℕ) {before after : List ℕ} {w : Answer} (write : WritesFileWith c r k rks counter input sizes before after w)
    (may : Writable c r k (length counter) (length input) sizes (length before)) where
  pub file-size : length (run_file c r rks counter (cut_by sizes input)) ≡ file_size c r sizes
  file-size = length-cut-file c r rks counter input sizes may.counter (omega (arith, may.all))

  pub write-served : (w.refusal ≡ 0) × (w.count ≡ file_size c r sizes) × (after ≡ sets before 0 (run_file c r rks counter (cut_by sizes input)))
  write-served =
      let e = writable-served sizes may in
      (write.refusal ∙ e, write.count ∙ rw e file-size, write.output ∙ rw e)

  pub write-front : take w.count after ≡ run_file c r rks counter (cut_by sizes input)
  write-front =
      let (e, count, output) = write-served in
      rw (count ∙ sym file-size, output) (take-stored before (run_file c r rks counter (cut_by sizes input)) (omega (arith, file-size, may.room)))

-- a file under a key of fewer than 16 bytes is not written: 13, with nothing else wrong with the key, count 0 and the output as it was
pub short-key-file : (c r k : ℕ) (rks counter input sizes : List ℕ) {before after : List ℕ} {w : Answer} → Keyed c r k → k < 16
    → WritesFileWith c r k rks counter input sizes before after w → (w.refusal ≡ 13) × (w.count ≡ 0) × (after ≡ before)
unfolding for_write
short-key-file c r k rks counter input sizes key short write =
    let is = short-key (wrong_block_length c _ ∷ wrong_sizes c r sizes _ ∷ small_output c r sizes _ ∷ []) key short in
    (write.refusal ∙ is, write.count ∙ rw is, write.output ∙ rw is)

pub size-told : {c r k : ℕ} (sizes : List ℕ) {s : Answer} → TellsSize c r sizes s → Keyed c r k → past_limit c r sizes ≡ false
    → (s.refusal ≡ 0) × (s.count ≡ file_size c r sizes)
size-told sizes tell key limits =
    let e = tellable-served sizes key limits in
    (tell.refusal ∙ e, tell.count ∙ rw e)

-- an output as long as was told is enough, and is filled
pub told-is-enough : (c r k : ℕ) (rks counter input sizes : List ℕ) {before after : List ℕ} {s w : Answer} → TellsSize c r sizes s → s.refusal ≡ 0 → 16 ≤ k
    → k ≤ 32 → length counter ≡ block_size c → total sizes ≡ length input → length before ≡ s.count
    → WritesFileWith c r k rks counter input sizes before after w → (w.refusal ≡ 0) × (w.count ≡ s.count)
told-is-enough c r k rks counter input sizes tell e long short block all room write =
    let (key, limits) = tellable k sizes short (sym tell.refusal ∙ e) in
    let size : _ ≡ file_size c r sizes = (size-told sizes tell key limits).1 in
    let (refusal, count, output) =
    write-served c r k rks counter input sizes write
    (record { keyed = key; long = long; counter = block; limits = limits; all = all; room = omega (arith, size) }) in
    (refusal, count ∙ sym size)

-- a file that was taken up, written again from what it says
module _ (c r k : ℕ) (rks file : List ℕ) {t : Taken} (taken : TakesUpWith c r k rks file t) (served : t.refusal ≡ 0) where
  abbrev counter : List ℕ
  counter = counter_in c r file

  abbrev plain : List (List ℕ)
  plain = turned_scans c rks counter (scans_of c r file)

  abbrev is : Keyed c r k × IsRunFile c r rks file counter (scans_of c r file)
  is = taken-is-written c r k rks file (sym taken.refusal ∙ served)

  same-file : run_file c r rks counter (cut_by (sizes_of plain) (flatten plain)) ≡ file
  same-file = ap (run_file c r rks counter) (cut_again plain) ∙ sym is.1.plain_text

  pub written-again : {before after : List ℕ} {w : Answer} → 16 ≤ k → length file ≤ length before
      → WritesFileWith c r k rks counter (flatten plain) (sizes_of plain) before after w → (w.refusal ≡ 0) × (take w.count after ≡ file)
  written-again {before} enough room write =
      let long =
      length-cut-file c r rks counter (flatten plain) (sizes_of plain) is.1.plain_values.block (omega (arith, total-joined plain)) in
      let size : length file ≡ file_size c r (sizes_of plain) = ap length (sym same-file) ∙ long in
      let may : Writable c r k (length counter) (length (flatten plain)) (sizes_of plain) (length before) = record {
        keyed = is.0;
        long = enough;
        counter = is.1.plain_values.block;
        limits = is.1.plain_values.limits;
        all = total-joined plain;
        room = omega (arith, size);
      } in (
        (write-served c r k rks counter (flatten plain) (sizes_of plain) write may).0,
        write-front c r k rks counter (flatten plain) (sizes_of plain) write may ∙ same-file,
      )
