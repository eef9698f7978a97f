-- The substitution (001 §2.2.6), with the S-box built from the three small S-boxes S1 to S3 (001 §3.1, Fig. 13).
-- Assumes nothing.
use Rattle.std.specs.Prelude.{ℕ, ◌+◌, ◌*◌, ◌/◌, ◌%◌, List, [], ◌∷◌, map, get_or}
use Rattle.fox_layers.specs.Words.{◌⊕◌, joined, split}

-- Fig. 13: the three small S-boxes
unfoldable pub S₁ : List ℕ
S₁ = 0x2 ∷ 0x5 ∷ 0x1 ∷ 0x9 ∷ 0xE ∷ 0xA ∷ 0xC ∷ 0x8 ∷ 0x6 ∷ 0x4 ∷ 0x7 ∷ 0xF ∷ 0xD ∷ 0xB ∷ 0x0 ∷ 0x3 ∷ []

unfoldable pub S₂ : List ℕ
S₂ = 0xB ∷ 0x4 ∷ 0x1 ∷ 0xF ∷ 0x0 ∷ 0x3 ∷ 0xE ∷ 0xD ∷ 0xA ∷ 0x8 ∷ 0x7 ∷ 0x5 ∷ 0xC ∷ 0x2 ∷ 0x9 ∷ 0x6 ∷ []

unfoldable pub S₃ : List ℕ
S₃ = 0xD ∷ 0xA ∷ 0xB ∷ 0x1 ∷ 0x4 ∷ 0x3 ∷ 0x8 ∷ 0x9 ∷ 0x5 ∷ 0x7 ∷ 0x2 ∷ 0xC ∷ 0xF ∷ 0x0 ∷ 0x6 ∷ 0xE ∷ []

-- a byte as its left and its right half, of four bits each
pub record Halves : Type 0 where
  pub left : ℕ
  pub right : ℕ

unfoldable pub halves : ℕ → Halves
halves x = record { left = x / 16; right = x % 16 }

unfoldable pub whole : Halves → ℕ
whole h = h.left * 16 + h.right

-- §3.1, by §2.2.3: "or" at four bits, (a, b) to (b, a ⊕ b), two bits each
unfoldable pub or4 : ℕ → ℕ
or4 x = x % 4 * 4 + (x / 4 ⊕ x % 4)

-- §3.1, by §2.2.1: lmid at eight bits: both halves are XORed with the small S-box's value at left ⊕ right
unfoldable pub lmid4 : List ℕ → Halves → Halves
lmid4 s h = let t = get_or s (h.left ⊕ h.right) 0 in record { left = h.left ⊕ t; right = h.right ⊕ t }

-- §3.1, by §2.2.1: lmor at eight bits: lmid, then "or" on the left half
unfoldable pub lmor4 : List ℕ → Halves → Halves
lmor4 s h = let k = lmid4 s h in record { left = or4 k.left; right = k.right }

-- §3.1: the S-box: three rounds, the last without "or"
unfoldable pub sbox : ℕ → ℕ
sbox x = whole (lmid4 S₃ (lmor4 S₂ (lmor4 S₁ (halves x))))

-- §2.2.6: sigma4 and sigma8 are sigma at 4 and at 8 bytes: each byte goes through the S-box
unfoldable pub sigma : ℕ → ℕ → ℕ
sigma n w = joined (map sbox (split n w))
