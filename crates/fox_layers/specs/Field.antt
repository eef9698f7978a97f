-- The field of 256 elements (001 §1.6): a byte is a polynomial over two elements, its bit k the coefficient of αᵏ, and products are taken modulo P = α⁸ + α⁷
-- + α⁶ + α⁵ + α⁴ + α³ + 1, which is 1F9. The field's sum is XOR (§1.6.1).
-- Assumes nothing.
use Rattle.std.specs.Prelude.{ℕ, zero, suc, ◌+◌, ◌-◌, ◌*◌, ◌/◌, ◌%◌, ◌^◌, cond, ltb, eqb}
use Rattle.fox_layers.specs.Words.{◌⊕◌}

-- §3.2, times α: a byte shifted left once; a bit shifted out at the top is α⁸, which is F9. The law `products` says that this is the product by 02
unfoldable pub double : ℕ → ℕ
double x = let over = (x * 2 - 256) ⊕ 0xF9 in cond (ltb x 128) (x * 2) over

-- §3.2, divided by α: a byte shifted right once; a bit shifted out at the bottom is 1, and 1/α is FC. The law `products` says that this is the product by FC
unfoldable pub halve : ℕ → ℕ
halve x = let under = x / 2 ⊕ 0xFC in cond (eqb (x % 2) 0) (x / 2) under

-- §1.6.2: the product of two polynomials, over the lowest n coefficients of the first
unfoldable pub polynomial : ℕ → ℕ → ℕ → ℕ
polynomial zero x y = 0
polynomial (suc n) x y = cond (eqb (x % 2) 0) 0 y ⊕ polynomial n (x / 2) (y * 2)

-- §1.6.2: the remainder of a polynomial of degree below 8 + n on division by P, highest coefficient first
unfoldable pub rest : ℕ → ℕ → ℕ
rest zero x = x
rest (suc n) x = let less = x ⊕ 0x1F9 * 2 ^ n in rest n (cond (ltb x (2 ^ (8 + n))) x less)

-- §1.6.2: the product of two bytes
unfoldable pub product : ℕ → ℕ → ℕ
product x y = rest 7 (polynomial 8 x y)
