-- Bytes as pairs of upper-case hex digits.
-- Assumes nothing.
use Rattle.std.specs.Prelude.{◌≡◌, ℕ, ◌+◌, ◌-◌, ◌*◌, ◌/◌, ◌%◌, ◌≤◌, Bool, true, cond, ◌&&◌, ◌||◌, List, [], ◌∷◌, length, leb, ltb, eqb}
use Rattle.fox_text.specs.Decimal.{is_digit}

abbrev pub is_hex : ℕ → Bool
is_hex d = is_digit d || (leb 65 d && leb d 70)

unfoldable pub all_hex : List ℕ → Bool
all_hex [] = true
all_hex (d ∷ ds) = is_hex d && all_hex ds

-- whether digits are pairs of hex digits, at most so many
abbrev pub is_pairs : ℕ → List ℕ → Bool
is_pairs most ds = eqb (length ds % 2) 0 && leb (length ds / 2) most && all_hex ds

unfoldable pub nibble : ℕ → ℕ
nibble d = cond (ltb d 65) (d - 48) (d - 55)

-- the bytes that pairs of hex digits are written for
unfoldable pub pairs_of : List ℕ → List ℕ
pairs_of [] = []
pairs_of (a ∷ []) = []
pairs_of (a ∷ b ∷ ds) = (nibble a * 16 + nibble b) ∷ pairs_of ds

-- hex digits, and a buffer with room for the bytes of their pairs
pub record Joins (ds out : List ℕ) : Type 0 where
  pub hex : all_hex ds ≡ true
  pub room : length ds ≤ length out * 2

unfoldable pub digit : ℕ → ℕ
digit n = cond (ltb n 10) (48 + n) (55 + n)

-- bytes as pairs of hex digits
unfoldable pub hex_text : List ℕ → List ℕ
hex_text [] = []
hex_text (b ∷ bs) = digit (b / 16) ∷ digit (b % 16) ∷ hex_text bs
