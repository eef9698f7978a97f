-- A loop that XORs a stretch part by part: after a part the output is XORed up to there, and the rest of it is as it was. The next part begins where the last
-- one ended, in the input, in the output and in the stream.
-- Assumes nothing.
use mathlib.Core.Path.{◌≡◌, refl, sym, ap, ap₂, ◌∙◌}
use mathlib.Core.List.{List, ◌++◌, append-nil, append_assoc}
use Prim.Native.Nat.{ℕ, ◌+◌, ◌-◌, ◌≤◌}
use native.Mathlib.Omega.{arith}
use borrow.Rule.Slice.PartMut.{mid_of, put_mid}
use lib.ListN.{length, take, drop, length-append, length-drop, drop_of_length-le}
use lib.Seq.{length-take-le, take_all, take_at, drop_at, take-add, drop-drop}
use Rattle.fox_bytes.proofs.Laws.WordsInBytes.{put-end}
use Rattle.fox_run.specs.Run.{xor_from}
use Rattle.fox_run.specs.Parts.{XoredTo}
use Rattle.fox_run.proofs.Laws.XorFrom.{length-xor_from, xor_from-append}

-- the part of a list from one place to the end
pub part_end : (at : ℕ) (xs : List ℕ) → mid_of at (length xs - at) xs ≡ drop at xs
part_end at xs = take_all (length xs - at) (drop at xs) (rw (length-drop at xs) (omega arith))

pub length-end : (at : ℕ) (xs : List ℕ) → length (mid_of at (length xs - at) xs) ≡ length xs - at
length-end at xs = ap length (part_end at xs) ∙ length-drop at xs

module _ (f : ℕ → ℕ) (n : ℕ) (ds os : List ℕ) where
  pub xored_to-first : XoredTo f n ds os 0 os
  unfolding xor_from
  xored_to-first = refl

  pub xored_to-on : (at m : ℕ) {now part next : List ℕ} → at + m ≤ length ds → length os ≡ length ds → XoredTo f n ds os at now
      → part ≡ xor_from f (n + at) (take m (drop at ds)) ++ drop m (drop at now) → next ≡ take at now ++ part → XoredTo f n ds os (at + m) next
  xored_to-on at m {now} {part} {next} h same laid ep en =
      let front = xor_from f n (take at ds) in
      let more = xor_from f (n + at) (take m (drop at ds)) in
      let size : length (take at ds) ≡ at = length-take-le at ds (omega arith) in
      let done : take at now ≡ front = ap (take at) laid ∙ take_at front (drop at os) at (length-xor_from f n (take at ds) ∙ size) in
      let left : drop at now ≡ drop at os = ap (drop at) laid ∙ drop_at front (drop at os) at (length-xor_from f n (take at ds) ∙ size) in
      let whole : front ++ more ≡ xor_from f n (take (at + m) ds) =
      ap (λ (k : ℕ). front ++ xor_from f (n + k) (take m (drop at ds))) (sym size)
      ∙ sym (xor_from-append f n (take at ds) (take m (drop at ds))) ∙ ap (xor_from f n) (sym (take-add at m ds)) in
      en ∙ ap₂ (λ (xs ys : List ℕ). xs ++ ys) done (ep ∙ ap (λ (xs : List ℕ). more ++ drop m xs) left)
      ∙ sym (append_assoc front more (drop m (drop at os))) ∙ ap₂ (λ (xs ys : List ℕ). xs ++ ys) whole (drop-drop m at os)

  -- what is XORed up to a place is so whatever the output was before, and so where it was that itself
  pub xored_to-self : (at : ℕ) {now : List ℕ} → at ≤ length ds → XoredTo f n ds os at now → XoredTo f n ds now at now
  xored_to-self at {now} h laid =
      let front = xor_from f n (take at ds) in
      let size : length front ≡ at = length-xor_from f n (take at ds) ∙ length-take-le at ds h in
      laid ∙ ap (λ (xs : List ℕ). front ++ xs) (sym (ap (drop at) laid ∙ drop_at front (drop at os) at size))

  -- the same in the form of an obligation on parts from `at` to the end, one passed for reading and one for writing
  pub xored_to-next : (at m : ℕ) (now part : List ℕ) → at + m ≤ length ds → length os ≡ length ds → XoredTo f n ds os at now
      → XoredTo f (n + at) (mid_of at (length ds - at) ds) (mid_of at (length now - at) now) m part
      → XoredTo f n ds os (at + m) (put_mid at (length now - at) now part)
  xored_to-next at m now part h same laid ep =
      xored_to-on at m h same laid
      (ep ∙ ap₂ (λ (xs ys : List ℕ). xor_from f (n + at) (take m xs) ++ drop m ys) (part_end at ds) (part_end at now)) (put-end at now part)

  pub xored_to-length : (at : ℕ) {now : List ℕ} → at ≤ length ds → length os ≡ length ds → XoredTo f n ds os at now → length now ≡ length ds
  xored_to-length at h same laid =
      ap length laid ∙ length-append (xor_from f n (take at ds)) (drop at os)
      ∙ ap₂ (λ (i j : ℕ). i + j) (length-xor_from f n (take at ds) ∙ length-take-le at ds h) (length-drop at os) ∙ omega arith

  pub xored_to-last : (at : ℕ) {now : List ℕ} → length os ≡ length ds → at ≡ length ds → XoredTo f n ds os at now → now ≡ xor_from f n ds
  xored_to-last at same e laid =
      laid ∙ ap₂ (λ (xs ys : List ℕ). xor_from f n xs ++ ys) (take_all at ds (omega arith)) (drop_of_length-le os {i = at} (omega arith))
      ∙ append-nil (xor_from f n ds)
