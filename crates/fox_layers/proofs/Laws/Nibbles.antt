-- Numbers of four bits that are held by their bits: a circuit on these is held to a function by one test; and on the halves of bytes an XOR, a box, two XORs
-- and, but for the last round, "or" are a round of the S-box on each byte.
-- Assumes nothing.
use mathlib.Core.Path.{◌≡◌, refl, ap, ◌∙◌, subst}
use mathlib.Core.List.{List, [], ◌∷◌, map}
use Prim.Native.Nat.{ℕ, ◌+◌, ◌*◌, ◌/◌, ◌%◌, ◌<◌, ◌≤◌}
use native.Mathlib.Omega.{arith}
use lib.ListN.{get_or, length-map}
use Rattle.fox_layers.specs.Bits.{spread}
use Rattle.fox_layers.specs.Lists.{numbered}
use Rattle.fox_layers.specs.Words.{◌⊕◌, joined, xor_each}
use Rattle.fox_layers.specs.Substitution.{Halves, or4, lmid4, lmor4}
use Rattle.fox_layers.specs.Structs.{Held, Each, EachXor}
use Rattle.fox_layers.specs.declared.nibbles.Nibbles.{Nibbles}
use Rattle.fox_layers.proofs.Laws.Bits.{alike, same_bits, small-map, spread-le, sum-of-bits}

-- each byte's left half in l and its right half in r
pub record Sides (f : ℕ → Halves) (xs : List ℕ) (l r : Nibbles) : Type 0 where
  pub left : Held (map (λ (x : ℕ). (f x).left) xs) l
  pub right : Held (map (λ (x : ℕ). (f x).right) xs) r

-- four words of bits that are those of g's values at the sixteen numbers of four bits, which is one test
pub circuit : (e₃ e₂ e₁ e₀ g : ℕ → ℕ) (ns : List ℕ) {x : Nibbles} → Held ns x
    → numbered (λ (n : ℕ). e₃ n % 2 * 8 + e₂ n % 2 * 4 + e₁ n % 2 * 2 + e₀ n % 2) 16 0 ≡ numbered g 16 0
    → Held (map g ns) (record { b3 = spread e₃ ns; b2 = spread e₂ ns; b1 = spread e₁ ns; b0 = spread e₀ ns })
circuit e₃ e₂ e₁ e₀ g ns h same =
    let value : (n : ℕ) → n < 16 → e₃ n % 2 * 8 + e₂ n % 2 * 4 + e₁ n % 2 * 2 + e₀ n % 2 ≡ g n =
    alike 16 (λ (n : ℕ). e₃ n % 2 * 8 + e₂ n % 2 * 4 + e₁ n % 2 * 2 + e₀ n % 2) g same in
    record {
      eight = length-map ns g ∙ h.eight;
      small = small-map g (λ n l. omega (arith, value n l)) ns h.small;
      b3 = same_bits e₃ (λ (n : ℕ). n / 8) g (λ n l. omega (arith, value n l)) ns h.small;
      b2 = same_bits e₂ (λ (n : ℕ). n / 4) g (λ n l. omega (arith, value n l)) ns h.small;
      b1 = same_bits e₁ (λ (n : ℕ). n / 2) g (λ n l. omega (arith, value n l)) ns h.small;
      b0 = same_bits e₀ (λ (n : ℕ). n) g (λ n l. omega (arith, value n l)) ns h.small;
    }

map-map : (g f : ℕ → ℕ) (xs : List ℕ) → map g (map f xs) ≡ map (λ (x : ℕ). g (f x)) xs
map-map g f [] = refl
map-map g f (x ∷ xs) = ap (λ (ys : List ℕ). g (f x) ∷ ys) (map-map g f xs)

xor-maps : (f g : ℕ → ℕ) (xs : List ℕ) → xor_each (map f xs) (map g xs) ≡ map (λ (x : ℕ). f x ⊕ g x) xs
unfolding xor_each
xor-maps f g [] = refl
xor-maps f g (x ∷ xs) = ap (λ (ys : List ℕ). (f x ⊕ g x) ∷ ys) (xor-maps f g xs)

module _ (xs : List ℕ) where
  each : {x r : Nibbles} (g f : ℕ → ℕ) → Each g x r → Held (map f xs) x → Held (map (λ (y : ℕ). g (f y)) xs) r
  each {r} g f law h = subst (λ (ns : List ℕ). Held ns r) (map-map g f xs) (law (map f xs) h)

  each_xor : {x y r : Nibbles} (f g : ℕ → ℕ) → EachXor x y r → Held (map f xs) x → Held (map g xs) y → Held (map (λ (z : ℕ). f z ⊕ g z) xs) r
  each_xor {r} f g law h k = subst (λ (ns : List ℕ). Held ns r) (xor-maps f g xs) (law (map f xs) (map g xs) h k)

  -- a round without "or", by the box s
  pub mid : {l r x t l' r' : Nibbles} (s : List ℕ) (f : ℕ → Halves) → Sides f xs l r → EachXor l r x → Each (λ (n : ℕ). get_or s n 0) x t
      → EachXor l t l' → EachXor r t r' → Sides (λ (y : ℕ). lmid4 s (f y)) xs l' r'
  unfolding lmid4
  mid s f h sum box left right =
      let both = each_xor (λ (y : ℕ). (f y).left) (λ (y : ℕ). (f y).right) sum h.left h.right in
      let entry = each (λ (n : ℕ). get_or s n 0) (λ (y : ℕ). (f y).left ⊕ (f y).right) box both in
      record {
        left = each_xor (λ (y : ℕ). (f y).left) (λ (y : ℕ). get_or s ((f y).left ⊕ (f y).right) 0) left h.left entry;
        right = each_xor (λ (y : ℕ). (f y).right) (λ (y : ℕ). get_or s ((f y).left ⊕ (f y).right) 0) right h.right entry;
      }

  -- "or" after it
  pub then-or : {l r l' : Nibbles} (s : List ℕ) (f : ℕ → Halves) → Sides (λ (y : ℕ). lmid4 s (f y)) xs l r → Each or4 l l'
      → Sides (λ (y : ℕ). lmor4 s (f y)) xs l' r
  unfolding lmor4
  then-or s f h law = record { left = each or4 (λ (y : ℕ). (lmid4 s (f y)).left) law h.left; right = h.right }

pub held-sum : {ns : List ℕ} {x : Nibbles} → Held ns x → x.b3 * 8 + x.b2 * 4 + x.b1 * 2 + x.b0 ≡ joined ns
held-sum {ns} h = rw (h.b3, h.b2, h.b1, h.b0) (sum-of-bits ns h.small)

pub held-le : {ns : List ℕ} {x : Nibbles} → Held ns x
    → (x.b3 ≤ 0x0101010101010101) × (x.b2 ≤ 0x0101010101010101) × (x.b1 ≤ 0x0101010101010101) × (x.b0 ≤ 0x0101010101010101)
held-le {ns} h = (
  rw h.b3 (spread-le _ ns h.eight),
  rw h.b2 (spread-le _ ns h.eight),
  rw h.b1 (spread-le _ ns h.eight),
  rw h.b0 (spread-le _ ns h.eight),
)
