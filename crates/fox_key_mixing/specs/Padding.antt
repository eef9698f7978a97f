-- Padding and mixing of a key (001 §2.3.5 to §2.3.7). A key is a list of bytes, and ek is counted in bytes.
-- Assumes nothing.
use Rattle.std.specs.Prelude.{ℕ, ◌+◌, ◌-◌, ◌%◌, List, [], ◌∷◌, ◌++◌, cond, ltb, length, take}
use Rattle.fox_layers.specs.Words.{◌⊕◌}

-- §2.3.6: the first 32 bytes of e - 2
unfoldable pub pad : List ℕ
pad =
    0xB7 ∷ 0xE1 ∷ 0x51 ∷ 0x62 ∷ 0x8A ∷ 0xED ∷ 0x2A ∷ 0x6A
    ∷ 0xBF ∷ 0x71 ∷ 0x58 ∷ 0x80 ∷ 0x9C ∷ 0xF4 ∷ 0xF3 ∷ 0xC7
    ∷ 0x62 ∷ 0xE7 ∷ 0x16 ∷ 0x0F ∷ 0x38 ∷ 0xB4 ∷ 0xDA ∷ 0x56
    ∷ 0xA7 ∷ 0x84 ∷ 0xD9 ∷ 0x04 ∷ 0x51 ∷ 0x90 ∷ 0xCF ∷ 0xEF
    ∷ []

-- §2.3.5, P: the key followed by the first bytes of pad, up to ek bytes
unfoldable pub padded : ℕ → List ℕ → List ℕ
padded ek key = key ++ take (ek - length key) pad

-- §2.3.7, M: each byte is XORed with the sum, mod 256, of the two mixed bytes before it, x and then y
unfoldable pub mixed : ℕ → ℕ → List ℕ → List ℕ
mixed x y [] = []
mixed x y (p ∷ ps) = (p ⊕ (y + x) % 256) ∷ mixed y (p ⊕ (y + x) % 256) ps

-- §2.3.2 to §2.3.4: mkey, the padded and mixed key; a key of ek bytes is neither padded nor mixed
unfoldable pub mkey : ℕ → List ℕ → List ℕ
mkey ek key =
    let short = mixed 0x6A 0x76 (padded ek key) in
    cond (ltb (length key) ek) short key
