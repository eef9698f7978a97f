-- The register stays within 24 bits; a step back undoes a step, and a step undoes a step back. So 001's register stepped back is that of fewer steps.
-- Assumes nothing.
use mathlib.Core.Path.{◌≡◌, refl, sym, ap, ◌∙◌}
use mathlib.Core.Bool.{Bool, true, false, not}
use mathlib.Core.List.{List, [], ◌∷◌, ◌++◌}
use Prim.Native.Nat.{ℕ, zero, suc, ◌+◌, ◌-◌, ◌*◌, ◌/◌, ◌%◌, ◌^◌, ◌≤◌, ◌<◌}
use native.Mathlib.Nat.{zero-add, suc-add, add_comm, one-mul}
use native.Mathlib.Numerals.{add-one}
use native.Mathlib.Omega.{arith}
use lib.Dec.{ltb, eqb}
use lib.ListN.{length, length-append}
use lib.Bits.{xor_shr, xor_mod, xor_comm, xor_lt, xor_shifted}
use borrow.Author.Tests.{ltb-true, ltb-false, lt-ltb, le-ltb, eq-eqb, ne_eqb, eqb-true, eqb-false}
use Rattle.fox_layers.specs.Words.{◌⊕◌, joined}
use Rattle.fox_layers.proofs.Laws.Xor.{xor_assoc, xor-cancel-right}
use Rattle.fox_layers.proofs.Laws.Lists.{by-test}
use Rattle.fox_key_register.specs.Register.{seed, clocked, clocked_back, iterate, LFSR, step, stepped}

-- the four branches of the two steps
pub clocked-below : (x : ℕ) → x < 2 ^ 23 → clocked x ≡ x * 2
unfolding clocked
clocked-below x h = simp (lt-ltb x (2 ^ 23) h)

pub clocked-above : (x : ℕ) → 2 ^ 23 ≤ x → clocked x ≡ (x * 2 - 2 ^ 24) ⊕ 0x1B
unfolding clocked
clocked-above x h = simp (le-ltb x (2 ^ 23) h)

pub clocked_back-even : (x : ℕ) → x % 2 ≡ 0 → clocked_back x ≡ x / 2
unfolding clocked_back
clocked_back-even x h = simp (eq-eqb (x % 2) 0 h)

pub clocked_back-odd : (x : ℕ) → (x % 2 ≡ 0 → ⊥) → clocked_back x ≡ x / 2 ⊕ 0x80000D
unfolding clocked_back
clocked_back-odd x h = simp (ne_eqb (x % 2) 0 h)

pub moved-lt : (x : ℕ) → x < 2 ^ 24 → ((x * 2 - 2 ^ 24) ⊕ 0x1B) < 2 ^ 24
moved-lt x h = xor_lt 24 (x * 2 - 2 ^ 24) 0x1B (omega arith) (omega arith)

pub halved-lt : (x : ℕ) → x < 2 ^ 24 → (x / 2 ⊕ 0x80000D) < 2 ^ 24
halved-lt x h = xor_lt 24 (x / 2) 0x80000D (omega arith) (omega arith)

pub clocked-lt : (x : ℕ) → x < 2 ^ 24 → clocked x < 2 ^ 24
unfolding clocked
clocked-lt x h =
    by-test (ltb x (2 ^ 23)) (λ t. rw t (omega (arith, ltb-true x (2 ^ 23) t))) (λ t. rw t (moved-lt x h))

pub clocked_back-lt : (x : ℕ) → x < 2 ^ 24 → clocked_back x < 2 ^ 24
unfolding clocked_back
clocked_back-lt x h = by-test (eqb (x % 2) 0) (λ t. rw t (omega arith)) (λ t. rw t (halved-lt x h))

-- XOR with a top bit that is not set is the sum. The powers are variables here, since ⊕ of two numerals would be computed bit by bit
with-top : (k p b : ℕ) → p ≡ 2 ^ k → b < 2 ^ k → b ⊕ p ≡ p + b
with-top k p b e h =
    xor_comm b p ∙ ap (λ (n : ℕ). n ⊕ b) (e ∙ sym (one-mul (2 ^ k))) ∙ xor_shifted 1 k b h
    ∙ ap (λ (n : ℕ). n + b) (one-mul (2 ^ k) ∙ sym e)

-- A register with its top bit set is 2 ^ 23 + z: a step gives z * 2 ⊕ 1B, which is odd. Its half is z ⊕ 0D, and XORed with 80000D that is z with the top bit
-- set again.
odd-after : (z : ℕ) → (z * 2 ⊕ 0x1B) % 2 ≡ 1
odd-after z =
    let even : z * 2 % 2 ≡ 0 = omega arith in
    rw (xor_mod (z * 2) 0x1B 1, even)

half-after : (z : ℕ) → (z * 2 ⊕ 0x1B) / 2 ≡ z ⊕ 0xD
half-after z =
    let half : z * 2 / 2 ≡ z = omega arith in
    rw (xor_shr (z * 2) 0x1B 1, half)

back_above : (x z : ℕ) → x ≡ 0x800000 + z → z < 2 ^ 23 → clocked_back (z * 2 ⊕ 0x1B) ≡ x
back_above x z e h =
    let odd = odd-after z in
    rw (clocked_back-odd (z * 2 ⊕ 0x1B) (λ p. omega arith), half-after z) (xor_assoc z 0xD 0x80000D ∙ with-top 23 0x800000 z refl h ∙ sym e)

back_below : (x : ℕ) → x < 2 ^ 23 → clocked_back (clocked x) ≡ x
back_below x below = rw (clocked-below x below, clocked_back-even (x * 2) (omega arith)) (omega arith)

pub back-clocked : (x : ℕ) → x < 2 ^ 24 → clocked_back (clocked x) ≡ x
back-clocked x h =
    by-test (ltb x (2 ^ 23)) (λ t. back_below x (ltb-true x (2 ^ 23) t))
    (λ t.
    let above = ltb-false x (2 ^ 23) t in
    let moved : x * 2 - 2 ^ 24 ≡ (x - 2 ^ 23) * 2 = omega arith in
    rw (clocked-above x above, moved) (back_above x (x - 2 ^ 23) (omega arith) (omega arith)))

-- An odd register has z as its half: a step back gives z ⊕ 80000D, which is 2 ^ 23 + (z ⊕ 0D). A step on from there gives (z ⊕ 0D) * 2 ⊕ 1B, which is odd and
-- has z as its half again.
on-odd : (x z : ℕ) → x ≡ z * 2 + 1 → z < 2 ^ 23 → clocked (z ⊕ 0x80000D) ≡ x
on-odd x z e h =
    let small : (z ⊕ 0xD) < 2 ^ 23 = xor_lt 23 z 0xD h (omega arith) in
    let y : z ⊕ 0x80000D ≡ 0x800000 + (z ⊕ 0xD) = sym (xor_assoc z 0xD 0x800000) ∙ with-top 23 0x800000 (z ⊕ 0xD) refl small in
    let above : 2 ^ 23 ≤ z ⊕ 0x80000D = rw y (omega arith) in
    let moved : (z ⊕ 0x80000D) * 2 - 2 ^ 24 ≡ (z ⊕ 0xD) * 2 = rw y (omega arith) in
    let odd = odd-after (z ⊕ 0xD) in
    let half = half-after (z ⊕ 0xD) ∙ xor-cancel-right z 0xD in
    rw (clocked-above (z ⊕ 0x80000D) above, moved) (omega (arith, odd, half, e))

on-even : (x : ℕ) → x % 2 ≡ 0 → x < 2 ^ 24 → clocked (clocked_back x) ≡ x
on-even x even h = rw (clocked_back-even x even, clocked-below (x / 2) (omega arith)) (omega arith)

pub clocked-back : (x : ℕ) → x < 2 ^ 24 → clocked (clocked_back x) ≡ x
clocked-back x h =
    by-test (eqb (x % 2) 0) (λ t. on-even x (eqb-true (x % 2) 0 t) h)
    (λ t. rw (clocked_back-odd x (eqb-false (x % 2) 0 t)) (on-odd x (x / 2) (omega (arith, eqb-false (x % 2) 0 t)) (omega arith)))

-- one step more, taken last or first
pub iterate-suc : {A : Type 0} (n : ℕ) (f : A → A) (x : A) → iterate (n + 1) f x ≡ f (iterate n f x)
unfolding iterate
iterate-suc n f x = rw add-one

pub iterate-first : {A : Type 0} (n : ℕ) (f : A → A) (x : A) → iterate n f (f x) ≡ f (iterate n f x)
unfolding iterate
iterate-first zero f x = refl
iterate-first (suc n) f x = ap f (iterate-first n f x)

pub iterate-add : {A : Type 0} (m n : ℕ) (f : A → A) (x : A) → iterate (m + n) f x ≡ iterate m f (iterate n f x)
unfolding iterate
iterate-add zero n f x = rw zero-add
iterate-add (suc m) n f x = rw suc-add (ap f (iterate-add m n f x))

-- what every step keeps, any number of steps keep
iterate-keeps : {A : Type 0} (P : A → Type 0) (f : A → A) → ((x : A) → P x → P (f x)) → (n : ℕ) (x : A) → P x → P (iterate n f x)
unfolding iterate
iterate-keeps P f keeps zero x h = h
iterate-keeps P f keeps (suc n) x h = keeps (iterate n f x) (iterate-keeps P f keeps n x h)

-- a step on or back keeps within 24 bits, and the other undoes it
pub step-lt : (on : Bool) (x : ℕ) → x < 2 ^ 24 → step on x < 2 ^ 24
unfolding step
step-lt true x h = clocked-lt x h
step-lt false x h = clocked_back-lt x h

pub step-undone : (on : Bool) (x : ℕ) → x < 2 ^ 24 → step (not on) (step on x) ≡ x
unfolding step
step-undone true x h = back-clocked x h
step-undone false x h = clocked-back x h

-- as many steps on, or back, as a list has numbers: with none, and with one more
pub stepped-none : (on : Bool) (x : ℕ) → x ≡ stepped on 0 x
unfolding stepped iterate
stepped-none on x = refl

pub stepped-more : (on : Bool) (ns : List ℕ) (n x : ℕ) → step on (stepped on (length ns) x) ≡ stepped on (length (ns ++ n ∷ [])) x
unfolding stepped
stepped-more on ns n x = sym (rw length-append (iterate-suc (length ns) (step on) x))

-- and so n steps
pub stepped-lt : (on : Bool) (n x : ℕ) → x < 2 ^ 24 → stepped on n x < 2 ^ 24
unfolding stepped
stepped-lt on n x h = iterate-keeps (λ (y : ℕ). y < 2 ^ 24) (step on) (step-lt on) n x h

pub stepped-undone : (on : Bool) (n x : ℕ) → x < 2 ^ 24 → stepped (not on) n (stepped on n x) ≡ x
unfolding stepped iterate
stepped-undone on zero x h = refl
stepped-undone on (suc n) x h =
    let y = iterate n (step on) x in
    cc (iterate-first n (step (not on)) (step on y), step-undone on y (stepped-lt on n x h), stepped-undone on n x h)

pub seed-lt : (r : ℕ) → r < 256 → seed r < 2 ^ 24
unfolding seed joined
seed-lt r h = omega (arith, xor_lt 8 r 0xFF h (omega arith))

pub LFSR-lt : (c r : ℕ) → r < 256 → LFSR c r < 2 ^ 24
unfolding LFSR stepped step
LFSR-lt c r h = stepped-lt true c (seed r) (seed-lt r h)

-- the register of 001 n steps on, and n steps back
pub LFSR-on : (m n r : ℕ) → stepped true n (LFSR m r) ≡ LFSR (m + n) r
unfolding LFSR stepped step
LFSR-on m n r = cc (iterate-add n m clocked (seed r), add_comm n m)

pub LFSR-back : (m n r : ℕ) → r < 256 → stepped false n (LFSR (m + n) r) ≡ LFSR m r
LFSR-back m n r h = rw (← (LFSR-on m n r)) (stepped-undone true n (LFSR m r) (LFSR-lt m r h))
