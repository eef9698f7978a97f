-- Doubling and halving undo each other, and give the products that the diffusion needs: each law is one test over all bytes.
-- Assumes nothing.
use mathlib.Core.Path.{◌≡◌, refl, sym, ap₂, ◌∙◌}
use mathlib.Core.List.{List}
use lib.ListN.{get_or}
use mathlib.Core.Bool.{Bool, true, false, cond}
use Prim.Native.Nat.{ℕ, zero, suc, ◌+◌, ◌-◌, ◌*◌, ◌/◌, ◌%◌, ◌^◌, ◌≤◌, ◌<◌}
use native.Mathlib.Nat.{add-zero, add-suc, suc-add, pow-suc, lt_of_lt_of_le}
use native.Mathlib.Omega.{arith}
use lib.Dec.{eqb, ltb}
use lib.Pow.{pow-add, pow_pos, pow_mono}
use lib.Bits.{xor_block}
use borrow.Author.Tests.{ltb-true, ltb-false}
use Rattle.fox_layers.specs.Words.{◌⊕◌, Bytes}
use Rattle.fox_layers.specs.Field.{double, halve, product, polynomial, rest}
use Rattle.fox_layers.specs.Tables.{table}
use Rattle.fox_layers.proofs.Laws.Xor.{xor-zero, xor_lt}
use Rattle.fox_layers.proofs.Laws.Lists.{by-test}
use Rattle.fox_layers.proofs.Laws.Bytewise.{agree}

pub halve-double : (x : ℕ) → x < 256 → halve (double x) ≡ x
unfolding double halve table
halve-double = agree (λ (x : ℕ). halve (double x)) (λ (x : ℕ). x) refl

pub double-halve : (x : ℕ) → x < 256 → double (halve x) ≡ x
unfolding double halve table
double-halve = agree (λ (x : ℕ). double (halve x)) (λ (x : ℕ). x) refl

pub record Products (x : ℕ) : Type 0 where
  pub by01 : product 0x01 x ≡ x
  pub by02 : product 0x02 x ≡ double x
  pub by03 : product 0x03 x ≡ double x ⊕ x
  pub by04 : product 0x04 x ≡ double (double x)
  pub by_7e : product 0x7E x ≡ halve (halve x)
  pub by82 : product 0x82 x ≡ halve x ⊕ halve (halve x)
  pub by_fc : product 0xFC x ≡ halve x
  pub by_fd : product 0xFD x ≡ halve x ⊕ x

pub products : (x : ℕ) → x < 256 → Products x
unfolding product polynomial rest double halve table
products x h =
    record {
      by01 = agree (product 0x01) (λ (x : ℕ). x) refl x h;
      by02 = agree (product 0x02) double refl x h;
      by03 = agree (product 0x03) (λ (x : ℕ). double x ⊕ x) refl x h;
      by04 = agree (product 0x04) (λ (x : ℕ). double (double x)) refl x h;
      by_7e = agree (product 0x7E) (λ (x : ℕ). halve (halve x)) refl x h;
      by82 = agree (product 0x82) (λ (x : ℕ). halve x ⊕ halve (halve x)) refl x h;
      by_fc = agree (product 0xFC) halve refl x h;
      by_fd = agree (product 0xFD) (λ (x : ℕ). halve x ⊕ x) refl x h;
    }

-- at byte i of a list: a byte is its product by 01, and the doubled byte is its product by 02
module _ (xs : List ℕ) (bytes : Bytes xs) (i : ℕ) where
  pub ones : get_or xs i 0 ≡ product 0x01 (get_or xs i 0)
  ones = sym (products (get_or xs i 0) (bytes i)).by01

  pub twos : double (get_or xs i 0) ≡ product 0x02 (get_or xs i 0)
  twos = sym (products (get_or xs i 0) (bytes i)).by02

-- The product of two bytes is a byte: a product of polynomials of degree 7 has degree 14, and each step of the division takes away the highest coefficient
-- that is left.
choose-lt : (t : Bool) (k x y : ℕ) → x < k → y < k → cond t x y < k
choose-lt true k x y hx hy = hx
choose-lt false k x y hx hy = hy

polynomial-lt : (n k x y : ℕ) → y < 2 ^ k → polynomial (suc n) x y < 2 ^ (k + n)
unfolding polynomial
polynomial-lt zero k x y h =
    rw (add-zero, xor-zero) (choose-lt (eqb (x % 2) 0) (2 ^ k) 0 y (pow_pos k) h)
polynomial-lt (suc n) k x y h =
    let wide : 2 ^ k ≤ 2 ^ (k + suc n) = pow_mono (omega arith) in
    xor_lt (k + suc n) (cond (eqb (x % 2) 0) 0 y) (polynomial (suc n) (x / 2) (y * 2))
    (choose-lt (eqb (x % 2) 0) (2 ^ (k + suc n)) 0 y (pow_pos (k + suc n)) (lt_of_lt_of_le h wide))
    (rw (add-suc, ← suc-add) (polynomial-lt n (suc k) (x / 2) (y * 2) (rw pow-suc (omega arith))))

taken-away : (n x : ℕ) → x < 2 ^ suc (8 + n) → 2 ^ (8 + n) ≤ x → (x ⊕ 0x1F9 * 2 ^ n) < 2 ^ (8 + n)
taken-away n x h above =
    let k = 8 + n in
    let top : 2 ^ k ≡ 256 * 2 ^ n = pow-add 2 8 n in
    let one_more : 2 ^ suc k ≡ 2 ^ k * 2 = pow-suc 2 k in
    let here : x ≡ 1 * 2 ^ k + (x - 2 ^ k) = omega arith in
    let there : 0x1F9 * 2 ^ n ≡ 1 * 2 ^ k + 0xF9 * 2 ^ n = omega arith in
    let low-here : x - 2 ^ k < 2 ^ k = omega arith in
    let low-there : 0xF9 * 2 ^ n < 2 ^ k = omega (arith, pow_pos n) in
    let gone = ap₂ (λ (a b : ℕ). a ⊕ b) here there ∙ xor_block k 1 1 (x - 2 ^ k) (0xF9 * 2 ^ n) low-here low-there in
    omega (arith, gone, xor_lt k (x - 2 ^ k) (0xF9 * 2 ^ n) low-here low-there)

rest_lt : (n x : ℕ) → x < 2 ^ (8 + n) → rest n x < 256
unfolding rest
rest_lt zero x h = h
rest_lt (suc n) x h =
    by-test (ltb x (2 ^ (8 + n))) (λ t. rw t (rest_lt n x (ltb-true x (2 ^ (8 + n)) t)))
    (λ t. rw t (rest_lt n (x ⊕ 0x1F9 * 2 ^ n) (taken-away n x (rw add-suc at h) (ltb-false x (2 ^ (8 + n)) t))))

pub product_lt : (x y : ℕ) → y < 256 → product x y < 256
unfolding product
product_lt x y h = rest_lt 7 (polynomial 8 x y) (polynomial-lt 7 8 x y h)
