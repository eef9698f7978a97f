-- What the code's structs hold, field by field.
-- Assumes nothing.
use Rattle.std.specs.Prelude.{◌≡◌, List, map, length, get_or, ℕ, ◌/◌, ◌<◌}
use Rattle.fox_layers.specs.Bits.{spread}
use Rattle.fox_layers.specs.Field.{product}
use Rattle.fox_layers.specs.Words.{xor_each}
use Rattle.fox_layers.specs.declared.field.Multiples.{Multiples}
use Rattle.fox_layers.specs.declared.nibbles.Nibbles.{Nibbles}

-- a byte's products by the coefficients of mu8 (001 §2.2.8)
pub record MultiplesOf (x : ℕ) (r : Multiples) : Type 0 where
  pub by02 : r.m02 ≡ product 0x02 x
  pub by03 : r.m03 ≡ product 0x03 x
  pub by04 : r.m04 ≡ product 0x04 x
  pub by7e : r.m7e ≡ product 0x7E x
  pub by82 : r.m82 ≡ product 0x82 x
  pub byfc : r.mfc ≡ product 0xFC x

-- eight numbers of four bits, held by their bits
pub record Held (ns : List ℕ) (r : Nibbles) : Type 0 where
  pub eight : length ns ≡ 8
  pub small : (i : ℕ) → get_or ns i 0 < 16
  pub b3 : r.b3 ≡ spread (λ (n : ℕ). n / 8) ns
  pub b2 : r.b2 ≡ spread (λ (n : ℕ). n / 4) ns
  pub b1 : r.b1 ≡ spread (λ (n : ℕ). n / 2) ns
  pub b0 : r.b0 ≡ spread (λ (n : ℕ). n) ns

-- whatever numbers x holds, r holds f's values at them
abbrev pub Each : (ℕ → ℕ) → Nibbles → Nibbles → Type 0
Each f x r = (ns : List ℕ) → Held ns x → Held (map f ns) r

-- whatever numbers x and y hold, r holds their XORs
abbrev pub EachXor : Nibbles → Nibbles → Nibbles → Type 0
EachXor x y r = (ms ns : List ℕ) → Held ms x → Held ns y → Held (xor_each ms ns) r
