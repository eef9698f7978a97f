-- The words that a key's bytes join to, at each width that the schedules read. A key's bytes are those of its words of 64 bits, one after the other. Words of
-- 2·n bytes are also twice as many words of n bytes, so the same bytes read as halves, or as pairs, give the words' halves, or pairs.
-- Assumes nothing.
use mathlib.Core.Path.{◌≡◌, refl, ap, ◌∙◌}
use mathlib.Core.List.{List, [], ◌∷◌, map, append_assoc}
use Prim.Native.Nat.{ℕ, ◌+◌, ◌*◌, ◌/◌, ◌%◌, ◌^◌, ◌<◌}
use native.Mathlib.Nat.{mod-eq_of_lt}
use lib.Arith.{digits_lt}
use lib.Pow.{shr_mod, high}
use native.Mathlib.Omega.{arith}
use lib.ListN.{length, get_or}
use lib.Seq.{take_at, drop_at}
use Rattle.fox_layers.specs.Words.{split}
use Rattle.fox_layers.proofs.Laws.Words.{length-split, joined-split-low, split-above, split_parts}
use Rattle.fox_key_mixing.specs.KeyBytes.{word_bytes}
use Rattle.fox_key_nonlinear.specs.Nonlinear.{words}

-- each word of 2·n bytes after its left half: taken as words of n bytes, these are its halves
abbrev halved : ℕ → List ℕ → List ℕ
halved n [] = []
halved n (w ∷ ws) = w / 2 ^ (8 * n) ∷ w ∷ halved n ws

words-word_bytes : (n : ℕ) (ws : List ℕ) → words n (length ws) (word_bytes n ws) ≡ map (λ (w : ℕ). w % 2 ^ (8 * n)) ws
unfolding words word_bytes
words-word_bytes n [] = refl
words-word_bytes n (w ∷ ws) =
    let whole = length-split n w in
    rw (take_at (split n w) (word_bytes n ws) n whole, drop_at (split n w) (word_bytes n ws) n whole, joined-split-low n w, words-word_bytes n ws)

word_bytes-halved : (n : ℕ) (ws : List ℕ) → word_bytes (n + n) ws ≡ word_bytes n (halved n ws)
unfolding word_bytes
word_bytes-halved n [] = refl
word_bytes-halved n (w ∷ ws) =
    rw (split_parts n n w, word_bytes-halved n ws, append_assoc)

-- a list of two or of four numbers, by its places
listed-two : (ws : List ℕ) → length ws ≡ 2 → ws ≡ get_or ws 0 0 ∷ get_or ws 1 0 ∷ []
listed-two [] e = absurd (omega arith)
listed-two (a ∷ []) e = absurd (omega arith)
listed-two (a ∷ b ∷ []) e = refl
listed-two (a ∷ b ∷ c ∷ ws) e = absurd (omega arith)

pub listed-four : (ws : List ℕ) → length ws ≡ 4 → ws ≡ get_or ws 0 0 ∷ get_or ws 1 0 ∷ get_or ws 2 0 ∷ get_or ws 3 0 ∷ []
listed-four [] e = absurd (omega arith)
listed-four (a ∷ []) e = absurd (omega arith)
listed-four (a ∷ b ∷ []) e = absurd (omega arith)
listed-four (a ∷ b ∷ c ∷ []) e = absurd (omega arith)
listed-four (a ∷ b ∷ c ∷ d ∷ []) e = refl
listed-four (a ∷ b ∷ c ∷ d ∷ f ∷ ws) e = absurd (omega arith)

module _ (ws : List ℕ) (n : length ws ≡ 2) (ha : get_or ws 0 0 < 2 ^ 64) (hb : get_or ws 1 0 < 2 ^ 64) where
  abbrev a : ℕ
  a = get_or ws 0 0

  abbrev b : ℕ
  b = get_or ws 1 0

  abbrev two : List ℕ
  two = a ∷ b ∷ []

  pub words-two : words 8 2 (word_bytes 8 ws) ≡ a ∷ b ∷ []
  words-two = ap (λ (l : List ℕ). words 8 2 (word_bytes 8 l)) (listed-two ws n) ∙ words-word_bytes 8 two ∙ cc (mod-eq_of_lt ha, mod-eq_of_lt hb)

  -- a key as words of 32 bits, as code computes them
  pub halves-two : words 4 4 (word_bytes 8 ws) ≡ a / 2 ^ 32 ∷ a % 2 ^ 32 ∷ b / 2 ^ 32 ∷ b % 2 ^ 32 ∷ []
  halves-two =
      ap (λ (l : List ℕ). words 4 4 (word_bytes 8 l)) (listed-two ws n)
      ∙ rw (word_bytes-halved 4 two) (words-word_bytes 4 (halved 4 two) ∙ cc (shr_mod 32 32 ha, shr_mod 32 32 hb))

module _ (ws : List ℕ) (n : length ws ≡ 4) (ha : get_or ws 0 0 < 2 ^ 64) (hb : get_or ws 1 0 < 2 ^ 64) (hc : get_or ws 2 0 < 2 ^ 64)
    (hd : get_or ws 3 0 < 2 ^ 64) where
  abbrev w₀ : ℕ
  w₀ = get_or ws 0 0

  abbrev w₁ : ℕ
  w₁ = get_or ws 1 0

  abbrev w₂ : ℕ
  w₂ = get_or ws 2 0

  abbrev w₃ : ℕ
  w₃ = get_or ws 3 0

  abbrev four : List ℕ
  four = w₀ ∷ w₁ ∷ w₂ ∷ w₃ ∷ []

  pub words-four : words 8 4 (word_bytes 8 ws) ≡ w₀ ∷ w₁ ∷ w₂ ∷ w₃ ∷ []
  words-four =
      ap (λ (l : List ℕ). words 8 4 (word_bytes 8 l)) (listed-four ws n)
      ∙ words-word_bytes 8 four ∙ cc (mod-eq_of_lt ha, mod-eq_of_lt hb, mod-eq_of_lt hc, mod-eq_of_lt hd)

  pub halves-four : words 4 8 (word_bytes 8 ws)
      ≡ w₀ / 2 ^ 32 ∷ w₀ % 2 ^ 32 ∷ w₁ / 2 ^ 32 ∷ w₁ % 2 ^ 32 ∷ w₂ / 2 ^ 32 ∷ w₂ % 2 ^ 32 ∷ w₃ / 2 ^ 32 ∷ w₃ % 2 ^ 32 ∷ []
  halves-four =
      ap (λ (l : List ℕ). words 4 8 (word_bytes 8 l)) (listed-four ws n)
      ∙ rw (word_bytes-halved 4 four)
      (words-word_bytes 4 (halved 4 four) ∙ cc (shr_mod 32 32 ha, shr_mod 32 32 hb, shr_mod 32 32 hc, shr_mod 32 32 hd))

  -- a key as numbers of 128 bits: the halves of the two numbers are the four words
  pub pairs-four : words 16 2 (word_bytes 8 ws) ≡ (w₀ * 2 ^ 64 + w₁) ∷ (w₂ * 2 ^ 64 + w₃) ∷ []
  unfolding word_bytes
  pairs-four =
      let p = w₀ * 2 ^ 64 + w₁ in
      let q = w₂ * 2 ^ 64 + w₃ in
      let ws' = p ∷ q ∷ [] in
      let same : word_bytes 8 (halved 8 ws') ≡ word_bytes 8 four =
      cc (high w₀ 64 hb, split-above 8 w₀ w₁, high w₂ 64 hd, split-above 8 w₂ w₃) in
      ap (λ (l : List ℕ). words 16 2 (word_bytes 8 l)) (listed-four ws n)
      ∙ rw (← same, ← (word_bytes-halved 8 ws'))
      (words-word_bytes 16 ws' ∙ cc (mod-eq_of_lt {m = 2 ^ 128} (digits_lt {c = 2 ^ 64} ha hb), mod-eq_of_lt {m = 2 ^ 128} (digits_lt {c = 2 ^ 64} hc hd)))
