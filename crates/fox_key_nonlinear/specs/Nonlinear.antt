-- The non-linear parts of the key schedules (001 §2.3.10 to §2.3.15): from the diversified key's bytes to a round key.
-- Assumes nothing.
use Rattle.std.specs.Prelude.{ℕ, zero, suc, ◌+◌, ◌-◌, ◌*◌, ◌/◌, ◌%◌, ◌^◌, List, [], ◌∷◌, map, Bool, cond, get_or, take, drop}
use Rattle.fox_layers.specs.Words.{◌⊕◌, joined, xor_each}
use Rattle.fox_layers.specs.Substitution.{sigma}
use Rattle.fox_layers.specs.Diffusion.{mu4, mu8}
use Rattle.fox_rounds.specs.declared.fox64.Fox64.{Fox64}
use Rattle.fox_rounds.specs.declared.fox128.Fox128.{Fox128}
use Rattle.fox_rounds.specs.Rounds.{left, right}
use Rattle.fox_rounds.specs.Skeleton.{seal64, seal128}
use Rattle.fox_key_mixing.specs.Padding.{pad}

-- bytes joined to k words of n bytes
unfoldable pub words : ℕ → ℕ → List ℕ → List ℕ
words n zero xs = []
words n (suc k) xs = joined (take n xs) ∷ words n k (drop n xs)

-- §2.3.13 and §2.3.15: each of four words becomes the XOR of the three others
unfoldable pub mix64 : List ℕ → List ℕ
mix64 x =
    let x₀ = get_or x 0 0 in
    let x₁ = get_or x 1 0 in
    let x₂ = get_or x 2 0 in
    let x₃ = get_or x 3 0 in
    (x₁ ⊕ x₂ ⊕ x₃) ∷ (x₀ ⊕ x₂ ⊕ x₃) ∷ (x₀ ⊕ x₁ ⊕ x₃) ∷ (x₀ ⊕ x₁ ⊕ x₂) ∷ []

unfoldable pub mix128 : List ℕ → List ℕ
mix128 x = mix64 x

-- §2.3.14: the same with four quarters of two words each
unfoldable pub mix64h : List ℕ → List ℕ
mix64h x =
    let x₀ = get_or x 0 0 in
    let x₁ = get_or x 1 0 in
    let x₂ = get_or x 2 0 in
    let x₃ = get_or x 3 0 in
    let x₄ = get_or x 4 0 in
    let x₅ = get_or x 5 0 in
    let x₆ = get_or x 6 0 in
    let x₇ = get_or x 7 0 in
    (x₂ ⊕ x₄ ⊕ x₆)
    ∷ (x₃ ⊕ x₅ ⊕ x₇)
    ∷ (x₀ ⊕ x₄ ⊕ x₆)
    ∷ (x₁ ⊕ x₅ ⊕ x₇)
    ∷ (x₀ ⊕ x₂ ⊕ x₆)
    ∷ (x₁ ⊕ x₃ ⊕ x₇)
    ∷ (x₀ ⊕ x₂ ⊕ x₄)
    ∷ (x₁ ⊕ x₃ ⊕ x₅)
    ∷ []

-- all bits of a word of n bytes flipped
unfoldable pub flipped : ℕ → ℕ → ℕ
flipped n w = w ⊕ (2 ^ (8 * n) - 1)

-- Algorithms 7 to 9 up to the hashing layer, on k words of n bytes: substitution, diffusion, mixing, XOR with pad, flip, substitution
unfoldable pub layers : ℕ → ℕ → (ℕ → ℕ) → (List ℕ → List ℕ) → Bool → List ℕ → List ℕ
layers n k mu mix flip t =
    let with_pad = xor_each (mix (map mu (map (sigma n) t))) (words n k pad) in
    let all_flipped = map (flipped n) with_pad in
    map (sigma n) (cond flip all_flipped with_pad)

-- what follows the XOR with pad, on a word of n bytes
unfoldable pub after_pad : ℕ → Bool → ℕ → ℕ
after_pad n flip w = sigma n (cond flip (flipped n w) w)

-- words of 64 bits as twice as many of 32
unfoldable pub in_two : List ℕ → List ℕ
in_two [] = []
in_two (w ∷ ws) = w / 2 ^ 32 ∷ w % 2 ^ 32 ∷ in_two ws

unfoldable pub number64 : Fox64 → ℕ
number64 x = x.l * 2 ^ 32 + x.r

unfoldable pub number128 : Fox128 → ℕ
number128 x = (x.ll * 2 ^ 32 + x.lr) * 2 ^ 64 + (x.rl * 2 ^ 32 + x.rr)

-- §2.3.10, Algorithm 7: the round key of FOX64 for keys of at most 16 bytes
unfoldable pub NL64 : Bool → List ℕ → ℕ
NL64 flip dkey =
    let t = layers 4 4 mu4 mix64 flip (words 4 4 dkey) in
    let hashed : Fox64 = record { l = get_or t 0 0 ⊕ get_or t 2 0; r = get_or t 1 0 ⊕ get_or t 3 0 } in
    number64 (seal64 (words 8 2 dkey) hashed)

-- §2.3.11, Algorithm 8: the round key of FOX64 for keys of more than 16 bytes
unfoldable pub NL64h : Bool → List ℕ → ℕ
NL64h flip dkey =
    let t = layers 4 8 mu4 mix64h flip (words 4 8 dkey) in
    let hashed : Fox64 =
    record { l = (get_or t 0 0 ⊕ get_or t 1 0) ⊕ (get_or t 4 0 ⊕ get_or t 5 0); r = (get_or t 2 0 ⊕ get_or t 3 0) ⊕ (get_or t 6 0 ⊕ get_or t 7 0) } in
    number64 (seal64 (words 8 4 dkey) hashed)

-- §2.3.12: two words of 64 bits, as the hashing layer gives them, as the state of FOX128
unfoldable pub parts128 : ℕ → ℕ → Fox128
parts128 a b =
    record { ll = left 32 a; lr = right 32 a; rl = left 32 b; rr = right 32 b }

unfoldable pub NL128 : Bool → List ℕ → ℕ
NL128 flip dkey =
    let t = layers 8 4 mu8 mix128 flip (words 8 4 dkey) in
    number128 (seal128 (words 16 2 dkey) (parts128 (get_or t 0 0 ⊕ get_or t 2 0) (get_or t 1 0 ⊕ get_or t 3 0)))
