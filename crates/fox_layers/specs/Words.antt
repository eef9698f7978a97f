-- XOR of words (001 §1.3), and words as bytes, the most significant first (001 §1.5).
-- Assumes nothing.
use Rattle.std.specs.Prelude.{ℕ, zero, suc, ◌+◌, ◌*◌, ◌/◌, ◌%◌, ◌^◌, ◌<◌, List, [], ◌∷◌, length, get_or}
use Rattle.std.specs.Int.Bits.{bit_xor}

infixr 55 ◌⊕◌
-- §1.3: XOR, which is the sum of the field (§1.6.1)
abbrev pub ◌⊕◌ : ℕ → ℕ → ℕ
a ⊕ b = bit_xor a b

-- §1.5: bytes joined to one number, x₀ ‖ x₁ ‖ ..
unfoldable pub joined : List ℕ → ℕ
joined [] = 0
joined (x ∷ xs) = x * 2 ^ (8 * length xs) + joined xs

-- §1.5: the lowest n bytes of a number, in the same order
unfoldable pub split : ℕ → ℕ → List ℕ
split zero w = []
split (suc n) w = (w / 2 ^ (8 * n) % 256) ∷ split n w

-- each number of a list is a byte
abbrev pub Bytes : List ℕ → Type 0
Bytes xs = (i : ℕ) → get_or xs i 0 < 256

-- two lists XORed place by place, up to the end of the shorter
unfoldable pub xor_each : List ℕ → List ℕ → List ℕ
xor_each [] ys = []
xor_each (x ∷ xs) [] = []
xor_each (x ∷ xs) (y ∷ ys) = (x ⊕ y) ∷ xor_each xs ys

-- the XOR of the numbers of a list
unfoldable pub xor_all : List ℕ → ℕ
xor_all [] = 0
xor_all (x ∷ xs) = x ⊕ xor_all xs

-- the XOR of f's values at the pairs of two lists, up to the end of the shorter
unfoldable pub xor_over : {A : Type 0} → (A → ℕ → ℕ) → List A → List ℕ → ℕ
xor_over f [] xs = 0
xor_over f (m ∷ ms) [] = 0
xor_over f (m ∷ ms) (x ∷ xs) = f m x ⊕ xor_over f ms xs
