-- The layers, word by word: flipping a list of words, or not, is flipping each of them, or not. The pad's words are computed.
-- Assumes nothing.
use mathlib.Core.Path.{◌≡◌, refl, sym, ap, ◌∙◌}
use mathlib.Core.List.{List, [], ◌∷◌, map}
use mathlib.Core.Bool.{Bool, true, false, cond}
use Prim.Native.Nat.{ℕ, ◌+◌, ◌-◌, ◌*◌, ◌/◌, ◌%◌, ◌^◌, ◌<◌}
use native.Mathlib.Omega.{arith}
use lib.ListN.{length, get_or}
use lib.Bits.{xor_block, xor_lt, xor_shr, xor_mod}
use Rattle.fox_layers.specs.Words.{◌⊕◌, joined, xor_each}
use Rattle.fox_layers.specs.Substitution.{sigma}
use Rattle.fox_layers.proofs.Laws.Tables.{sigma-parts}
use Rattle.fox_layers.proofs.Laws.Xor.{xor-medial}
use Rattle.fox_key_mixing.specs.Padding.{pad}
use Rattle.fox_key_nonlinear.proofs.Laws.KeyWords.{listed-four}
use Rattle.fox_key_nonlinear.specs.Nonlinear.{words, flipped, layers, mix64, mix64h, mix128, after_pad, in_two}

pub pad-4-4 : words 4 4 pad ≡ 0xB7E15162 ∷ 0x8AED2A6A ∷ 0xBF715880 ∷ 0x9CF4F3C7 ∷ []
unfolding words pad joined
pad-4-4 = refl

pub pad-4-8 : words 4 8 pad
    ≡ 0xB7E15162 ∷ 0x8AED2A6A ∷ 0xBF715880 ∷ 0x9CF4F3C7 ∷ 0x62E7160F ∷ 0x38B4DA56 ∷ 0xA784D904 ∷ 0x5190CFEF ∷ []
unfolding words pad joined
pad-4-8 = refl

pub pad-8-4 : words 8 4 pad ≡ 0xB7E151628AED2A6A ∷ 0xBF7158809CF4F3C7 ∷ 0x62E7160F38B4DA56 ∷ 0xA784D9045190CFEF ∷ []
unfolding words pad joined
pad-8-4 = refl

map-after_pad : (n : ℕ) (flip : Bool) (ws : List ℕ) → map (sigma n) (cond flip (map (flipped n) ws) ws) ≡ map (after_pad n flip) ws
unfolding after_pad
map-after_pad n true [] = refl
map-after_pad n true (w ∷ ws) = rw (map-after_pad n true ws)
map-after_pad n false ws = refl

-- the layers, from the words after the diffusion and the pad's words
pub layers-made : (n k : ℕ) (mu : ℕ → ℕ) (mix : List ℕ → List ℕ) (flip : Bool) (ts : List ℕ) {xs ps : List ℕ}
    → xs ≡ map mu (map (sigma n) ts) → words n k pad ≡ ps → map (after_pad n flip) (xor_each (mix xs) ps) ≡ layers n k mu mix flip ts
unfolding layers
layers-made n k mu mix flip ts made pads = rw (made, ← pads) (sym (map-after_pad n flip (xor_each (mix (map mu (map (sigma n) ts))) (words n k pad))))

-- two words of four bytes, side by side in one of eight, flipped or not
flipped-pair : (flip : Bool) (a b : ℕ) → a < 2 ^ 32 → b < 2 ^ 32
    → cond flip (flipped 8 (a * 2 ^ 32 + b)) (a * 2 ^ 32 + b) ≡ cond flip (flipped 4 a) a * 2 ^ 32 + cond flip (flipped 4 b) b
unfolding flipped
flipped-pair true a b ha hb = xor_block 32 a (2 ^ 32 - 1) b (2 ^ 32 - 1) hb (omega arith)
flipped-pair false a b ha hb = refl

flipped-lt : (flip : Bool) (b : ℕ) → b < 2 ^ 32 → cond flip (flipped 4 b) b < 2 ^ 32
unfolding flipped
flipped-lt true b hb = xor_lt 32 b (2 ^ 32 - 1) hb (omega arith)
flipped-lt false b hb = hb

-- and then substituted
pub after_pad-pair : (flip : Bool) (a b : ℕ) → a < 2 ^ 32 → b < 2 ^ 32
    → (after_pad 8 flip (a * 2 ^ 32 + b) / 2 ^ 32 ≡ after_pad 4 flip a) × (after_pad 8 flip (a * 2 ^ 32 + b) % 2 ^ 32 ≡ after_pad 4 flip b)
unfolding after_pad
after_pad-pair flip a b ha hb =
    let p = cond flip (flipped 4 a) a in
    let q = cond flip (flipped 4 b) b in
    let small = flipped-lt flip b hb in
    let parts = sigma-parts (p * 2 ^ 32 + q) in
    let there : (p * 2 ^ 32 + q) / 2 ^ 32 ≡ p = omega (arith, small) in
    let here : (p * 2 ^ 32 + q) % 2 ^ 32 ≡ q = omega (arith, small) in
    rw (flipped-pair flip a b ha hb) (parts.0 ∙ ap (sigma 4) there, parts.1 ∙ ap (sigma 4) here)

-- so of the halves of any word of eight bytes
after_pad-halves : (flip : Bool) (w : ℕ) → w < 2 ^ 64
    → (after_pad 8 flip w / 2 ^ 32 ≡ after_pad 4 flip (w / 2 ^ 32)) × (after_pad 8 flip w % 2 ^ 32 ≡ after_pad 4 flip (w % 2 ^ 32))
after_pad-halves flip w h =
    let whole : w / 2 ^ 32 * 2 ^ 32 + w % 2 ^ 32 ≡ w = omega arith in
    rw whole at (after_pad-pair flip (w / 2 ^ 32) (w % 2 ^ 32) (omega arith) (omega arith))

-- and of a mixed word: the halves of an XOR are the XORs of the halves
mixed-halves : (flip : Bool) (a b c p : ℕ) → a < 2 ^ 64 → b < 2 ^ 64 → c < 2 ^ 64 → p < 2 ^ 64
    → (after_pad 8 flip ((a ⊕ b ⊕ c) ⊕ p) / 2 ^ 32 ≡ after_pad 4 flip ((a / 2 ^ 32 ⊕ b / 2 ^ 32 ⊕ c / 2 ^ 32) ⊕ p / 2 ^ 32))
    × (after_pad 8 flip ((a ⊕ b ⊕ c) ⊕ p) % 2 ^ 32 ≡ after_pad 4 flip ((a % 2 ^ 32 ⊕ b % 2 ^ 32 ⊕ c % 2 ^ 32) ⊕ p % 2 ^ 32))
mixed-halves flip a b c p ha hb hc hp =
    let small : ((a ⊕ b ⊕ c) ⊕ p) < 2 ^ 64 = xor_lt 64 (a ⊕ b ⊕ c) p (xor_lt 64 a (b ⊕ c) ha (xor_lt 64 b c hb hc)) hp in
    let both = after_pad-halves flip ((a ⊕ b ⊕ c) ⊕ p) small in (
      both.0 ∙ ap (after_pad 4 flip) (rw (xor_shr (a ⊕ b ⊕ c) p 32, xor_shr a (b ⊕ c) 32, xor_shr b c 32)),
      both.1 ∙ ap (after_pad 4 flip) (rw (xor_mod (a ⊕ b ⊕ c) p 32, xor_mod a (b ⊕ c) 32, xor_mod b c 32)),
    )

-- four words of eight bytes mixed are, by their halves, eight words of four bytes mixed
pub in_two-mixed : (flip : Bool) (x₀ x₁ x₂ x₃ : ℕ) → x₀ < 2 ^ 64 → x₁ < 2 ^ 64 → x₂ < 2 ^ 64 → x₃ < 2 ^ 64
    → in_two (map (after_pad 8 flip) (xor_each (mix128 (x₀ ∷ x₁ ∷ x₂ ∷ x₃ ∷ [])) (words 8 4 pad)))
    ≡ map (after_pad 4 flip) (xor_each (mix64h (in_two (x₀ ∷ x₁ ∷ x₂ ∷ x₃ ∷ []))) (words 4 8 pad))
unfolding in_two mix128 mix64 mix64h xor_each
in_two-mixed flip x₀ x₁ x₂ x₃ h₀ h₁ h₂ h₃ =
    let a = mixed-halves flip x₁ x₂ x₃ 0xB7E151628AED2A6A h₁ h₂ h₃ (omega arith) in
    let b = mixed-halves flip x₀ x₂ x₃ 0xBF7158809CF4F3C7 h₀ h₂ h₃ (omega arith) in
    let c = mixed-halves flip x₀ x₁ x₃ 0x62E7160F38B4DA56 h₀ h₁ h₃ (omega arith) in
    let d = mixed-halves flip x₀ x₁ x₂ 0xA784D9045190CFEF h₀ h₁ h₂ (omega arith) in
    rw (pad-8-4, pad-4-8) (λ i. a.0 i ∷ a.1 i ∷ b.0 i ∷ b.1 i ∷ c.0 i ∷ c.1 i ∷ d.0 i ∷ d.1 i ∷ [])

-- four words of eight bytes by their halves
pub in_two-four : (ws : List ℕ) → length ws ≡ 4
    → in_two ws
    ≡ get_or ws 0 0 / 2 ^ 32 ∷ get_or ws 0 0 % 2 ^ 32 ∷ get_or ws 1 0 / 2 ^ 32 ∷ get_or ws 1 0 % 2 ^ 32
    ∷ get_or ws 2 0 / 2 ^ 32 ∷ get_or ws 2 0 % 2 ^ 32 ∷ get_or ws 3 0 / 2 ^ 32 ∷ get_or ws 3 0 % 2 ^ 32 ∷ []
unfolding in_two
in_two-four ws n = ap in_two (listed-four ws n)

-- the halves of an XOR, XORed, are the XOR of the halves of both
pub folded-xor : (a b : ℕ) → (a ⊕ b) / 2 ^ 32 ⊕ (a ⊕ b) % 2 ^ 32 ≡ (a / 2 ^ 32 ⊕ a % 2 ^ 32) ⊕ (b / 2 ^ 32 ⊕ b % 2 ^ 32)
folded-xor a b = rw (xor_shr a b 32, xor_mod a b 32) (xor-medial (a / 2 ^ 32) (b / 2 ^ 32) (a % 2 ^ 32) (b % 2 ^ 32))
