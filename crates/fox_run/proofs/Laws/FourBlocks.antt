-- Bytes XORed with four blocks of a stream side by side: two XORs written one after the other are one with the blocks joined, and four whole blocks, from the
-- one that byte n begins, are the stream from byte n on.
-- Assumes nothing.
use mathlib.Core.Path.{◌≡◌, sym, ap, ap₂, ◌∙◌}
use mathlib.Core.List.{List, ◌++◌, append_assoc, append-nil}
use Prim.Native.Nat.{ℕ, ◌+◌, ◌*◌, ◌-◌, ◌/◌, ◌%◌, ◌≤◌, ◌<◌}
use native.Mathlib.Nat.{div-add-mod'}
use native.Mathlib.Omega.{arith}
use borrow.Rule.Slice.PartMut.{mid_of, put_mid}
use lib.ListN.{length, take, drop}
use Rattle.fox_layers.specs.Words.{xor_each}
use Rattle.fox_run.specs.Run.{streamed, xor_from}
use Rattle.fox_run.specs.Parts.{XoredTo}
use Rattle.fox_bytes.proofs.Laws.XorEach.{length-xor_each-min, xor_each-append, xored_to-after}
use Rattle.fox_run.proofs.Laws.Streams.{blocks_from, whole-blocks}
use Rattle.fox_run.proofs.Laws.Loop.{part_end}

-- two XORs written one after the other, in the form of an obligation on parts from a to the end
pub xored_to-two : (a : ℕ) (xs ys ds os l p : List ℕ) → length xs ≡ a → a ≤ length ds → l ≡ xor_each xs ds ++ drop a os
    → p ≡ xor_each ys (mid_of a (length ds - a) ds) ++ drop a (mid_of a (length l - a) l) → put_mid a (length l - a) l p ≡ xor_each (xs ++ ys) ds ++ drop (a + a) os
xored_to-two a xs ys ds os l p n h e f =
    xored_to-after a a (xor_each xs ds) (xor_each ys (drop a ds)) os l p (omega (arith, length-xor_each-min xs ds)) e
    (f ∙ ap (λ (zs : List ℕ). xor_each ys zs ++ drop a (mid_of a (length l - a) l)) (part_end a ds))
    ∙ ap (λ (zs : List ℕ). zs ++ drop (a + a) os) (sym (xor_each-append xs ys ds a n h))

both : {ps qs xs ys : List ℕ} → ps ≡ xs → qs ≡ ys → ps ++ qs ≡ xs ++ ys
both e f = ap₂ (λ (zs ws : List ℕ). zs ++ ws) e f

module _ (block : ℕ → List ℕ) where
  -- four blocks, joined two and two, are four of the stream
  four-blocks : (i : ℕ) (p q u v : List ℕ) → p ≡ block i → q ≡ block (i + 1) → u ≡ block (i + 2) → v ≡ block (i + 3)
      → (p ++ q) ++ (u ++ v) ≡ blocks_from block i 4
  unfolding blocks_from
  four-blocks i p q u v ep eq eu ev =
      append_assoc p q (u ++ v)
      ∙ both ep (both (eq ∙ ap block (omega arith)) (both (eu ∙ ap block (omega arith)) (ev ∙ ap block (omega arith) ∙ sym (append-nil _))))

  pub four-xored_to : (B n : ℕ) (p q u v ds os : List ℕ) {after : List ℕ} → 0 < B → ((i : ℕ) → length (block i) ≡ B) → n % B ≡ 0
      → p ≡ block (n / B) → q ≡ block (n / B + 1) → u ≡ block (n / B + 2) → v ≡ block (n / B + 3)
      → after ≡ xor_each ((p ++ q) ++ (u ++ v)) ds ++ drop (4 * B) os → XoredTo (streamed B block) n ds os (4 * B) after
  four-xored_to B n p q u v ds os pos size whole ep eq eu ev e =
      let start : n / B * B ≡ n = omega (arith, div-add-mod' n B) in
      e
      ∙ ap (λ (xs : List ℕ). xs ++ drop (4 * B) os)
      (ap (λ (xs : List ℕ). xor_each xs ds) (four-blocks (n / B) p q u v ep eq eu ev) ∙ sym (whole-blocks B block pos size (n / B) 4 ds)
      ∙ ap (λ (m : ℕ). xor_from (streamed B block) m (take (4 * B) ds)) start)
