-- The diffusion (001 §2.2.7 and §2.2.8): mu4 and mu8 are products of a matrix with a word's bytes, over the field.
-- Assumes nothing.
use Rattle.std.specs.Prelude.{ℕ, List, [], ◌∷◌, map, length}
use Rattle.fox_layers.specs.Words.{joined, split, xor_over}
use Rattle.fox_layers.specs.Field.{product}

-- a row times a column: the XOR of the products, entry by entry
unfoldable pub dot : List ℕ → List ℕ → ℕ
dot ms xs = xor_over product ms xs

-- a matrix, given by its rows, times a column
unfoldable pub times : List (List ℕ) → List ℕ → List ℕ
times rows xs = map (λ (row : List ℕ). dot row xs) rows

abbrev pub α : ℕ
α = 0x02

-- 1/α + 1, which §2.2.7 calls c; §2.2.8 gives that letter another meaning
abbrev pub z : ℕ
z = 0xFD

-- §2.2.7: the matrix of mu4, by its rows
unfoldable pub mu4_rows : List (List ℕ)
mu4_rows =
    (1 ∷ 1 ∷ 1 ∷ α ∷ [])
    ∷ (1 ∷ z ∷ α ∷ 1 ∷ [])
    ∷ (z ∷ α ∷ 1 ∷ 1 ∷ [])
    ∷ (α ∷ 1 ∷ z ∷ 1 ∷ [])
    ∷ []

-- §2.2.8: a = α + 1, b = 1/α + 1/α², c = α, d = α², e = 1/α, f = 1/α²
abbrev pub a : ℕ
a = 0x03

abbrev pub b : ℕ
b = 0x82

abbrev pub c : ℕ
c = 0x02

abbrev pub d : ℕ
d = 0x04

abbrev pub e : ℕ
e = 0xFC

abbrev pub f : ℕ
f = 0x7E

-- §2.2.8: the matrix of mu8, by its rows
unfoldable pub mu8_rows : List (List ℕ)
mu8_rows =
    (1 ∷ 1 ∷ 1 ∷ 1 ∷ 1 ∷ 1 ∷ 1 ∷ a ∷ [])
    ∷ (1 ∷ a ∷ b ∷ c ∷ d ∷ e ∷ f ∷ 1 ∷ [])
    ∷ (a ∷ b ∷ c ∷ d ∷ e ∷ f ∷ 1 ∷ 1 ∷ [])
    ∷ (b ∷ c ∷ d ∷ e ∷ f ∷ 1 ∷ a ∷ 1 ∷ [])
    ∷ (c ∷ d ∷ e ∷ f ∷ 1 ∷ a ∷ b ∷ 1 ∷ [])
    ∷ (d ∷ e ∷ f ∷ 1 ∷ a ∷ b ∷ c ∷ 1 ∷ [])
    ∷ (e ∷ f ∷ 1 ∷ a ∷ b ∷ c ∷ d ∷ 1 ∷ [])
    ∷ (f ∷ 1 ∷ a ∷ b ∷ c ∷ d ∷ e ∷ 1 ∷ [])
    ∷ []

-- a word of as many bytes as the matrix has rows, diffused
unfoldable pub diffused : List (List ℕ) → ℕ → ℕ
diffused rows w = joined (times rows (split (length rows) w))

unfoldable pub mu4 : ℕ → ℕ
mu4 w = diffused mu4_rows w

unfoldable pub mu8 : ℕ → ℕ
mu8 w = diffused mu8_rows w
