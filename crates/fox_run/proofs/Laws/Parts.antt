-- A part of a stretch, from what code does: the rest of a sealed counter block XORed with the input. And such a part in a loop over the stretch.
-- Assumes nothing.
use mathlib.Core.Path.{◌≡◌, sym, ap, ◌∙◌}
use mathlib.Core.List.{List, ◌++◌}
use Prim.Native.Nat.{ℕ, ◌+◌, ◌-◌, ◌/◌, ◌%◌, ◌≤◌, ◌<◌}
use native.Mathlib.Nat.{mod-lt}
use native.Mathlib.Omega.{arith}
use borrow.Rule.Slice.PartMut.{mid_of, put_mid}
use lib.ListN.{length, take, drop}
use Rattle.fox_layers.specs.Words.{xor_each}
use Rattle.fox_run.specs.Run.{streamed, xor_from}
use Rattle.fox_run.specs.Parts.{Xored, XoredTo, Part}
use Rattle.fox_run.proofs.Laws.Streams.{length-within, within-taken}
use Rattle.fox_run.proofs.Laws.Loop.{xored_to-next, xored_to-length, length-end}

-- from byte n to the end of its block, or of the input where that comes first
pub part-made : (B : ℕ) (block : ℕ → List ℕ) → 0 < B → ((i : ℕ) → length (block i) ≡ B) → (n : ℕ) {bs ds os after : List ℕ} {r : ℕ}
    → bs ≡ block (n / B) → Xored (drop (n % B) bs) ds os after r → Part (streamed B block) n ds os after r
part-made B block pos size n {bs} {ds} {os} {after} {r} made xored =
    let here = ap (λ (p : List ℕ). xor_each (drop (n % B) p) ds) made in
    let many = xored.count ∙ ap length here in
    let least = many ∙ length-within B block pos size n ds in
    record {
      some = λ h. omega (arith, least, mod-lt n pos);
      within = omega (arith, least);
      output = xored.output
          ∙ ap (λ (xs : List ℕ). xs ++ drop r os)
          (here ∙ sym (ap (λ (m : ℕ). xor_from (streamed B block) n (take m ds)) many ∙ within-taken B block pos size n ds));
    }

-- a part in a loop that XORs the stretch ds from byte n on: `at` bytes of it are done, and the part is of what is left
module _ (n at : ℕ) (ds now : List ℕ) {f : ℕ → ℕ} {part : List ℕ} {r : ℕ} (h : at ≤ length ds)
    (p : Part f (n + at) (mid_of at (length ds - at) ds) (mid_of at (length now - at) now) part r) where
  pub part-within : at + r ≤ length ds
  part-within = omega (arith, p.within, length-end at ds)

  -- at least one byte is done where any are left
  pub part-some : at < length ds → 1 ≤ r
  part-some more = p.some (omega (arith, length-end at ds))

  pub part-xored_to : (os : List ℕ) → length os ≡ length ds → XoredTo f n ds os at now
      → (at + r ≤ length ds) × (length (put_mid at (length now - at) now part) ≡ length ds) × XoredTo f n ds os (at + r) (put_mid at (length now - at) now part)
  part-xored_to os l laid =
      let next = xored_to-next f n ds os at r now part part-within l laid p.output in
      (part-within, xored_to-length f n ds os (at + r) part-within l next, next)
