-- Two lists of bytes compared byte by byte, by the bits in which they differ: the bits seen so far are 0 exactly where the bytes so far are the same.
-- Assumes nothing.
use mathlib.Core.Path.{◌≡◌, refl, sym, ap, ap₂, ◌∙◌}
use mathlib.Core.Bool.{Bool, true, false, cond}
use mathlib.Core.List.{List, [], ◌∷◌, ◌++◌}
use Prim.Native.Nat.{ℕ, ◌+◌, ◌<◌}
use native.Mathlib.Nat.{suc_inj}
use native.Mathlib.Numerals.{add-one}
use native.Mathlib.Omega.{arith}
use lib.Bits.{bit_or, or_add_and, and_le_l, and_le_r, or_zero_l}
use lib.Dec.{eqb}
use lib.ListN.{length, take, get_or}
use lib.Seq.{take-suc, length-take-le}
use borrow.Author.Tests.{eq-eqb, ne_eqb, eqb-true, eqb-false}
use Rattle.fox_layers.specs.Words.{◌⊕◌}
use Rattle.fox_layers.proofs.Laws.Lists.{by-test}
use Rattle.fox_layers.proofs.Laws.Xor.{zero_xor, xor_same, xor-cancel-right}
use Rattle.fox_refusals.specs.Refusals.{same}

-- one byte more
same-snoc : (xs ys : List ℕ) (x y : ℕ) → length xs ≡ length ys → same (xs ++ (x ∷ [])) (ys ++ (y ∷ [])) ≡ cond (same xs ys) (eqb x y) false
unfolding same
same-snoc [] [] x y e = alone (eqb x y)
  where
    alone : (t : Bool) → cond t true false ≡ t
    alone true = refl
    alone false = refl
same-snoc [] (b ∷ ys) x y e = absurd (omega arith)
same-snoc (a ∷ xs) [] x y e = absurd (omega arith)
same-snoc (a ∷ xs) (b ∷ ys) x y e =
    ap (λ (t : Bool). cond (eqb a b) t false) (same-snoc xs ys x y (suc_inj e)) ∙ later (eqb a b) (same xs ys)
  where
    later : (t u : Bool) → cond t (cond u (eqb x y) false) false ≡ cond (cond t u false) (eqb x y) false
    later true u = refl
    later false u = refl

-- bits of two numbers put together are 0 exactly where both numbers are
no_bits : (a b : ℕ) → bit_or a b ≡ 0 → (a ≡ 0) × (b ≡ 0)
no_bits a b e = (omega (arith, or_add_and a b, and_le_r a b), omega (arith, or_add_and a b, and_le_l a b))

-- and the XOR of two numbers is 0 exactly where they are the same
none_differ : (x y : ℕ) → x ⊕ y ≡ 0 → x ≡ y
none_differ x y e = sym (xor-cancel-right x y) ∙ ap (λ (n : ℕ). n ⊕ y) e ∙ zero_xor y

bits-next : (bits x y : ℕ) → eqb (bit_or bits (x ⊕ y)) 0 ≡ cond (eqb bits 0) (eqb x y) false
bits-next bits x y =
    by-test (eqb bits 0)
    (λ t.
    by-test (eqb x y)
    (λ u. rw (t, u) (eq-eqb _ 0 (ap₂ (λ (a b : ℕ). bit_or a (b ⊕ y)) (eqb-true bits 0 t) (eqb-true x y u) ∙ or_zero_l (y ⊕ y) ∙ xor_same y)))
    (λ u. rw (t, u) (ne_eqb _ 0 (λ z. eqb-false x y u (none_differ x y (no_bits bits (x ⊕ y) z).1)))))
    (λ t. rw t (ne_eqb _ 0 (λ z. eqb-false bits 0 t (no_bits bits (x ⊕ y) z).0)))

pub same_next : (xs ys : List ℕ) (i bits : ℕ) → i < length xs → length xs ≡ length ys → eqb bits 0 ≡ same (take i xs) (take i ys)
    → eqb (bit_or bits (get_or xs i 0 ⊕ get_or ys i 0)) 0 ≡ same (take (i + 1) xs) (take (i + 1) ys)
same_next xs ys i bits h e seen =
    let sizes = length-take-le i xs (omega arith) ∙ sym (length-take-le i ys (omega arith)) in
    bits-next bits (get_or xs i 0) (get_or ys i 0)
    ∙ ap (λ (t : Bool). cond t (eqb (get_or xs i 0) (get_or ys i 0)) false) seen
    ∙ sym (same-snoc (take i xs) (take i ys) (get_or xs i 0) (get_or ys i 0) sizes)
    ∙ ap₂ same (sym (take-suc xs i 0 h)) (sym (take-suc ys i 0 (omega arith)))
    ∙ ap (λ (n : ℕ). same (take n xs) (take n ys)) (sym (add-one i))
