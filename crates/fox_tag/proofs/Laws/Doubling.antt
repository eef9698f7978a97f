-- Doubling a block, byte by byte: each byte moves left by one bit and takes the top bit of the byte after it; where the first byte's top bit leaves, the
-- reduction is XORed into the last byte.
-- Assumes nothing.
use mathlib.Core.Path.{◌≡◌, refl, sym, ap, ap₂, ◌∙◌}
use mathlib.Core.Bool.{Bool, true, false, cond}
use mathlib.Core.List.{List, [], ◌∷◌, ◌++◌}
use Prim.Native.Nat.{ℕ, zero, suc, ◌+◌, ◌*◌, ◌/◌, ◌%◌, ◌^◌, ◌<◌, ◌≤◌}
use native.Mathlib.Nat.{zero-lt-suc, le_of_suc-le-suc, not-suc-le-zero, add-zero, div-add-mod', div-one, mod-eq_of_lt, div-eq_of_lt, mod-lt, zero-mul, one-mul}
use native.Mathlib.Omega.{arith}
use lib.Dec.{ltb, lit<}
use lib.ListN.{length, get_or, set, replicate}
use lib.Pow.{pow_pos}
use borrow.Author.Tests.{lt-ltb, le-ltb}
use Rattle.fox_layers.specs.Words.{◌⊕◌, joined, split, Bytes, xor_each}
use Rattle.fox_layers.proofs.Laws.Words.{pow-byte, length-split, joined-lt, split-above, split-joined, split-xor, length-xor_each}
use Rattle.fox_layers.proofs.Laws.Xor.{xor-zero}
use Rattle.fox_tag.specs.Cmac.{reduction, doubled}

-- the bit that comes in from what follows: the top bit of the next byte, and b after the last
unfoldable pub incoming : List ℕ → ℕ → ℕ
incoming [] b = b
incoming (x ∷ xs) b = x / 128

-- all bytes moved left by one bit, with the bit b coming in at the end
unfoldable pub shifted : List ℕ → ℕ → List ℕ
shifted [] b = []
shifted (x ∷ xs) b = (x % 128 * 2 + incoming xs b) ∷ shifted xs b

pub length-shifted : (xs : List ℕ) (b : ℕ) → length (shifted xs b) ≡ length xs
unfolding shifted
length-shifted [] b = refl
length-shifted (x ∷ xs) b = ap suc (length-shifted xs b)

incoming-lt : (xs : List ℕ) (b : ℕ) → Bytes xs → b < 2 → incoming xs b < 2
unfolding incoming
incoming-lt [] b h small = small
incoming-lt (x ∷ xs) b h small = omega (arith, h 0)

shifted-bytes : (xs : List ℕ) (b : ℕ) → Bytes xs → b < 2 → Bytes (shifted xs b)
unfolding shifted
shifted-bytes [] b h small i = zero-lt-suc 255
shifted-bytes (x ∷ xs) b h small zero = omega (arith, incoming-lt xs b (λ i. h (suc i)) small)
shifted-bytes (x ∷ xs) b h small (suc i) = shifted-bytes xs b (λ k. h (suc k)) small i

-- the number that the moved bytes join to, with the bit that left, is twice the number, and the bit that came in
joined-shifted : (xs : List ℕ) (b : ℕ) → joined (shifted xs b) + incoming xs b * 2 ^ (8 * length xs) ≡ 2 * joined xs + b
unfolding joined shifted incoming
joined-shifted [] b = omega arith
joined-shifted (x ∷ xs) b =
    let P = 2 ^ (8 * length xs) in
    let later = joined-shifted xs b in
    let parts : (x / 128 * 128 + x % 128) * P ≡ x * P = ap (λ (n : ℕ). n * P) (div-add-mod' x 128) in
    rw (length-shifted xs b, pow-byte (length xs)) (omega arith)

-- twice a number, in as many bytes
split-twice : (xs : List ℕ) → Bytes xs → split (length xs) (2 * joined xs) ≡ shifted xs 0
split-twice xs h =
    let n = length xs in
    let w = joined (shifted xs 0) in
    let parts : 2 * joined xs ≡ incoming xs 0 * 2 ^ (8 * n) + w = omega (arith, joined-shifted xs 0) in
    ap (split n) parts
    ∙ split-above n (incoming xs 0) w
    ∙ ap (λ (m : ℕ). split m w) (sym (length-shifted xs 0))
    ∙ split-joined (shifted xs 0) (shifted-bytes xs 0 h (lit< tt))

-- the reduction is XORed in exactly where a bit leaves
reduced : (xs : List ℕ) (r : ℕ) → Bytes xs → cond (ltb (2 * joined xs) (2 ^ (8 * length xs))) 0 r ≡ incoming xs 0 * r
reduced xs r h = at (incoming xs 0) (incoming-lt xs 0 h (lit< tt)) (joined-shifted xs 0)
  where
    small : joined (shifted xs 0) < 2 ^ (8 * length xs)
    small = rw (length-shifted xs 0) at (joined-lt (shifted xs 0) (shifted-bytes xs 0 h (lit< tt)))

    at : (t : ℕ) → t < 2 → joined (shifted xs 0) + t * 2 ^ (8 * length xs) ≡ 2 * joined xs + 0 → cond (ltb (2 * joined xs) (2 ^ (8 * length xs))) 0 r ≡ t * r
    at zero l e = rw (lt-ltb (2 * joined xs) (2 ^ (8 * length xs)) (omega (arith, small))) (sym (zero-mul r))
    at (suc zero) l e = rw (le-ltb (2 * joined xs) (2 ^ (8 * length xs)) (omega (arith, small))) (sym (one-mul r))
    at (suc (suc t)) l e = absurd (omega arith)

-- a doubled block: its bytes moved, with the reduction XORed in where a bit left
doubled-shifted : (xs : List ℕ) → Bytes xs → doubled (length xs) xs ≡ xor_each (shifted xs 0) (split (length xs) (incoming xs 0 * reduction (length xs)))
unfolding doubled
doubled-shifted xs h =
    split-xor (length xs) (2 * joined xs) _
    ∙ ap₂ (λ (us vs : List ℕ). xor_each us vs) (split-twice xs h) (ap (split (length xs)) (reduced xs (reduction (length xs)) h))

-- a byte as the last of n + 1
split-small : (n r : ℕ) → r < 256 → split (suc n) r ≡ replicate n 0 ++ (r ∷ [])
unfolding split
split-small zero r h = ap (λ (b : ℕ). b ∷ []) (ap (λ (q : ℕ). q % 256) (div-one r) ∙ mod-eq_of_lt h)
split-small (suc n) r h =
    let none : r / 2 ^ (8 * suc n) ≡ 0 = div-eq_of_lt (rw (pow-byte n) (omega (arith, pos n))) in
    ap₂ (λ (b : ℕ) (bs : List ℕ). b ∷ bs) (ap (λ (q : ℕ). q % 256) none) (split-small n r h)
  where
    pos : (m : ℕ) → 0 < 2 ^ (8 * m)
    pos m = pow_pos (8 * m)

-- XOR with such a byte changes the last byte alone
xor-last : (n : ℕ) (xs : List ℕ) (r : ℕ) → length xs ≡ suc n → xor_each xs (replicate n 0 ++ (r ∷ [])) ≡ set xs n (get_or xs n 0 ⊕ r)
unfolding xor_each
xor-last n [] r e = absurd (omega arith)
xor-last zero (x ∷ []) r e = refl
xor-last zero (x ∷ y ∷ xs) r e = absurd (omega arith)
xor-last (suc n) (x ∷ xs) r e = ap₂ (λ (y : ℕ) (ys : List ℕ). y ∷ ys) (xor-zero x) (xor-last n xs r (omega arith))

-- the bytes of a moved block, as code computes them

pub shifted_at : (xs : List ℕ) (b i : ℕ) → suc i < length xs → get_or (shifted xs b) i 0 ≡ get_or xs i 0 % 128 * 2 + get_or xs (suc i) 0 / 128
unfolding shifted incoming
shifted_at [] b i h = absurd (not-suc-le-zero h)
shifted_at (x ∷ []) b i h = absurd (omega arith)
shifted_at (x ∷ y ∷ xs) b zero h = refl
shifted_at (x ∷ y ∷ xs) b (suc i) h = shifted_at (y ∷ xs) b i (le_of_suc-le-suc h)

pub shifted-last : (xs : List ℕ) (b n : ℕ) → length xs ≡ suc n → get_or (shifted xs b) n 0 ≡ get_or xs n 0 % 128 * 2 + b
unfolding shifted incoming
shifted-last [] b n e = absurd (omega arith)
shifted-last (x ∷ []) b zero e = refl
shifted-last (x ∷ []) b (suc n) e = absurd (omega arith)
shifted-last (x ∷ y ∷ xs) b zero e = absurd (omega arith)
shifted-last (x ∷ y ∷ xs) b (suc n) e = shifted-last (y ∷ xs) b n (omega arith)

incoming-first : (n : ℕ) (xs : List ℕ) → length xs ≡ suc n → incoming xs 0 ≡ get_or xs 0 0 / 128
unfolding incoming
incoming-first n [] e = absurd (omega arith)
incoming-first n (x ∷ xs) e = refl

-- a block of n + 1 bytes doubled, as code does it
pub doubled-done : (n : ℕ) (xs : List ℕ) → Bytes xs → length xs ≡ suc n → get_or xs 0 0 / 128 * reduction (suc n) < 256
    → doubled (suc n) xs ≡ set (shifted xs 0) n (get_or xs n 0 % 128 * 2 ⊕ get_or xs 0 0 / 128 * reduction (suc n))
doubled-done n xs h e small =
    let r = get_or xs 0 0 / 128 * reduction (suc n) in
    ap (λ (m : ℕ). doubled m xs) (sym e)
    ∙ doubled-shifted xs h
    ∙ ap₂ (λ (m t : ℕ). xor_each (shifted xs 0) (split m (t * reduction m))) e (incoming-first n xs e)
    ∙ ap (xor_each (shifted xs 0)) (split-small n r small)
    ∙ xor-last n (shifted xs 0) r (length-shifted xs 0 ∙ e)
    ∙ ap (λ (b : ℕ). set (shifted xs 0) n (b ⊕ r)) (shifted-last xs 0 n e ∙ add-zero _)

pub length-doubled : (B : ℕ) (xs : List ℕ) → length (doubled B xs) ≡ B
unfolding doubled
length-doubled B xs = length-split B _
