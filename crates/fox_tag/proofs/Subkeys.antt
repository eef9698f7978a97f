-- Doubling is injective, for blocks of any size from one byte on: the reduction is odd and a moved block is even, so the lowest bit of the result tells
-- whether a bit left; and with that the rest tells the block.
-- Assumes nothing.
use mathlib.Core.Path.{◌≡◌, refl, sym, ap, ap₂, ◌∙◌}
use mathlib.Core.Bool.{Bool, true, false, cond}
use mathlib.Core.List.{List}
use Prim.Native.Nat.{ℕ, ◌+◌, ◌-◌, ◌*◌, ◌%◌, ◌^◌, ◌<◌, ◌≤◌}
use native.Mathlib.Nat.{mod-eq_of_lt}
use native.Mathlib.Omega.{arith}
use lib.Dec.{eqb, ltb}
use lib.Bits.{xor_mod}
use lib.ListN.{length}
use lib.Arith.{digits_mod}
use lib.Pow.{mod-mod-pow}
use borrow.Author.Tests.{ltb-true, ltb-false}
use Rattle.fox_layers.specs.Words.{◌⊕◌, joined, split, Bytes}
use Rattle.fox_layers.proofs.Laws.Words.{joined-lt, joined-split-low, split-joined}
use Rattle.fox_layers.proofs.Laws.Xor.{xor-cancel-right, zero_xor}
use Rattle.fox_layers.proofs.Laws.Lists.{by-test}
use Rattle.fox_tag.specs.Cmac.{reduction, doubled}

reduction-odd : (B : ℕ) → reduction B % 2 ≡ 1
unfolding reduction
reduction-odd B = both (eqb B 8)
  where
    both : (t : Bool) → cond t 0x1B 0x87 % 2 ≡ 1
    both true = refl
    both false = refl

-- two numbers below n whose doubles are the same modulo n, and are both below n or both not
halves-low : (n v w : ℕ) → 2 * v < n → 2 * w < n → 2 * v % n ≡ 2 * w % n → v ≡ w
halves-low n v w g h e = omega (arith, sym (mod-eq_of_lt g) ∙ e ∙ mod-eq_of_lt h)

once-above : (n v : ℕ) → v < n → n ≤ 2 * v → 2 * v % n ≡ 2 * v - n
once-above n v small g =
    let less : 2 * v - n < n = omega arith in
    let parts : 2 * v ≡ 1 * n + (2 * v - n) = omega arith in
    ap (λ (m : ℕ). m % n) parts ∙ digits_mod 1 less

halves-high : (n v w : ℕ) → v < n → w < n → n ≤ 2 * v → n ≤ 2 * w → 2 * v % n ≡ 2 * w % n → v ≡ w
halves-high n v w sv sw g h e = omega (arith, sym (once-above n v sv g) ∙ e ∙ once-above n w sw h)

module _ (B : ℕ) where
  -- what a block is XORed with
  abbrev taken : ℕ → Bool
  taken w = ltb (2 * w) (2 ^ (8 * B))

  abbrev xored : ℕ → ℕ
  xored w = cond (taken w) 0 (reduction B)

  -- whether a bit left shows in the lowest bit
  odd : (w : ℕ) → (2 * w ⊕ xored w) % 2 ≡ xored w % 2
  odd w =
      let even : 2 * w % 2 ≡ 0 = omega arith in
      xor_mod (2 * w) (xored w) 1 ∙ ap (λ (b : ℕ). b ⊕ xored w % 2) even ∙ zero_xor (xored w % 2)

  bit : (t : Bool) → cond t 0 (reduction B) % 2 ≡ cond t 0 1
  bit true = refl
  bit false = reduction-odd B

  bits-tell : (t u : Bool) → ◌≡◌ {A = ℕ} (cond t 0 1) (cond u 0 1) → t ≡ u
  bits-tell true true e = refl
  bits-tell true false e = absurd (omega arith)
  bits-tell false true e = absurd (omega arith)
  bits-tell false false e = refl

  module _ (v w : ℕ) (some : 1 ≤ B) (hv : v < 2 ^ (8 * B)) (hw : w < 2 ^ (8 * B))
      (same : (2 * v ⊕ xored v) % 2 ^ (8 * B) ≡ (2 * w ⊕ xored w) % 2 ^ (8 * B)) where
    same_bit : taken v ≡ taken w
    same_bit =
        let bits : 8 * B ≡ (8 * B - 1) + 1 = omega arith in
        let low : (n : ℕ) → n % 2 ^ (8 * B) % 2 ≡ n % 2 = λ n. ap (λ (k : ℕ). n % 2 ^ k % 2) bits ∙ mod-mod-pow n (8 * B - 1) 1 in
        bits-tell (taken v) (taken w)
        (sym (bit (taken v)) ∙ sym (odd v) ∙ sym (low _) ∙ ap (λ (n : ℕ). n % 2) same ∙ low _ ∙ odd w ∙ bit (taken w))

    -- what is left without the XOR
    same-moved : 2 * v % 2 ^ (8 * B) ≡ 2 * w % 2 ^ (8 * B)
    same-moved =
        let k = 8 * B in
        let without : (n r : ℕ) → n % 2 ^ k ≡ ((n ⊕ r) % 2 ^ k) ⊕ (r % 2 ^ k) =
        λ n r. ap (λ (m : ℕ). m % 2 ^ k) (sym (xor-cancel-right n r)) ∙ xor_mod (n ⊕ r) r k in
        without (2 * v) (xored v)
        ∙ ap₂ (λ (a b : ℕ). a ⊕ b % 2 ^ k) same (ap (λ (t : Bool). cond t 0 (reduction B)) same_bit)
        ∙ sym (without (2 * w) (xored w))

    same_number : v ≡ w
    same_number =
        let n = 2 ^ (8 * B) in
        by-test (taken v)
        (λ t. let g = ltb-true (2 * v) n t in let h = ltb-true (2 * w) n (sym same_bit ∙ t) in halves-low n v w g h same-moved)
        (λ t. let g = ltb-false (2 * v) n t in let h = ltb-false (2 * w) n (sym same_bit ∙ t) in halves-high n v w hv hw g h same-moved)

-- two blocks of B bytes whose doubles are the same are the same
pub doubling-injective : (B : ℕ) (xs ys : List ℕ) → 1 ≤ B → Bytes xs → Bytes ys → length xs ≡ B → length ys ≡ B → doubled B xs ≡ doubled B ys → xs ≡ ys
unfolding doubled
doubling-injective B xs ys some hx hy ex ey e =
    let number : joined xs ≡ joined ys =
    same_number B (joined xs) (joined ys) some (rw ex at (joined-lt xs hx)) (rw ey at (joined-lt ys hy))
    (sym (joined-split-low B _) ∙ ap joined e ∙ joined-split-low B _) in
    sym (split-joined xs hx)
    ∙ ap₂ split (ex ∙ sym ey) number
    ∙ split-joined ys hy
