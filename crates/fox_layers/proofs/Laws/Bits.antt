-- Bits of numbers, spread over the bytes of a word: "and", "or" and XOR of such words are taken bit by bit; a word "and" ONES has a bit of each byte; what has
-- the same bits at all sixteen numbers of four bits has them wherever these stand; and numbers of four bits are the sums of their bits.
-- Assumes nothing.
use mathlib.Core.Path.{◌≡◌, refl, sym, ap, ap₂, ◌∙◌}
use mathlib.Core.List.{List, [], ◌∷◌, map}
use Prim.Native.Nat.{ℕ, zero, suc, ◌+◌, ◌*◌, ◌/◌, ◌%◌, ◌^◌, ◌<◌, ◌≤◌}
use native.Mathlib.Nat.{zero-add, zero-mul, add-mul, mul_assoc, mul_comm, zero-lt-suc, mod-lt}
use native.Mathlib.Nat.{lt_of_le_of_lt, le_refl, add-le-add, mul-le-mul_right, div-div-eq-div-mul}
use native.Mathlib.Omega.{arith}
use lib.Bits.{bit_and, bit_or, bit_xor, and_block, or_block, xor_block, and_mod, or_mod, xor_mod, and_shr, and_mask, and_le_r, xor_lt}
use lib.ListN.{length, get_or, length-map}
use Rattle.fox_layers.specs.Words.{joined, split, xor_each}
use Rattle.fox_layers.specs.Lists.{numbered}
use Rattle.fox_layers.specs.Bits.{spread}
use Rattle.fox_layers.proofs.Laws.Lists.{numbered-at}
use Rattle.fox_layers.proofs.Laws.Words.{joined-lt, joined-split, joined-xor_each, map-bytes}

spread-cons : (f : ℕ → ℕ) (x : ℕ) (xs : List ℕ) → spread f (x ∷ xs) ≡ f x % 2 * 2 ^ (8 * length xs) + spread f xs
unfolding spread joined
spread-cons f x xs = rw (length-map xs (λ (x : ℕ). f x % 2))

spread-lt : (f : ℕ → ℕ) (xs : List ℕ) → spread f xs < 2 ^ (8 * length xs)
unfolding spread
spread-lt f xs =
    rw (length-map xs (λ (x : ℕ). f x % 2)) at (joined-lt (map (λ (x : ℕ). f x % 2) xs) (map-bytes (λ (x : ℕ). f x % 2) (λ x. omega arith) xs))

-- an operation that is taken bit by bit
module _ (op : ℕ → ℕ → ℕ) (none : op 0 0 ≡ 0)
    (block : (k a b r s : ℕ) → r < 2 ^ k → s < 2 ^ k → op (a * 2 ^ k + r) (b * 2 ^ k + s) ≡ op a b * 2 ^ k + op r s)
    (low : (a b k : ℕ) → op a b % 2 ^ k ≡ op (a % 2 ^ k) (b % 2 ^ k)) where
  by_bits : (f g : ℕ → ℕ) (xs : List ℕ) → op (spread f xs) (spread g xs) ≡ spread (λ (x : ℕ). op (f x) (g x)) xs
  unfolding spread joined
  by_bits f g [] = none
  by_bits f g (x ∷ xs) =
      ap₂ op (spread-cons f x xs) (spread-cons g x xs)
      ∙ block (8 * length xs) (f x % 2) (g x % 2) (spread f xs) (spread g xs) (spread-lt f xs) (spread-lt g xs)
      ∙ ap₂ (λ (a b : ℕ). a * 2 ^ (8 * length xs) + b) (sym (low (f x) (g x) 1)) (by_bits f g xs)
      ∙ sym (spread-cons (λ (x : ℕ). op (f x) (g x)) x xs)

pub xor-spread : (f g : ℕ → ℕ) (xs : List ℕ) → bit_xor (spread f xs) (spread g xs) ≡ spread (λ (x : ℕ). bit_xor (f x) (g x)) xs
xor-spread = by_bits bit_xor refl xor_block xor_mod

pub and-spread : (f g : ℕ → ℕ) (xs : List ℕ) → bit_and (spread f xs) (spread g xs) ≡ spread (λ (x : ℕ). bit_and (f x) (g x)) xs
and-spread = by_bits bit_and refl and_block and_mod

pub or-spread : (f g : ℕ → ℕ) (xs : List ℕ) → bit_or (spread f xs) (spread g xs) ≡ spread (λ (x : ℕ). bit_or (f x) (g x)) xs
or-spread = by_bits bit_or refl or_block or_mod

pub ruleset Circuit = (xor-spread, and-spread, or-spread)

-- the bit 1 in each of n bytes
ones : ℕ → ℕ
ones zero = 0
ones (suc n) = 1 * 2 ^ (8 * n) + ones n

ones-of : (xs : List ℕ) → ones (length xs) ≡ spread (λ (x : ℕ). 1) xs
unfolding spread joined ones
ones-of [] = refl
ones-of (x ∷ xs) = ap (λ (n : ℕ). 1 * 2 ^ (8 * length xs) + n) (ones-of xs) ∙ sym (spread-cons (λ (x : ℕ). 1) x xs)

pub ones-spread : (xs : List ℕ) → length xs ≡ 8 → 0x0101_0101_0101_0101 ≡ spread (λ (x : ℕ). 1) xs
unfolding ones
ones-spread xs e = ap ones (sym e) ∙ ones-of xs

le_ones : (f : ℕ → ℕ) (xs : List ℕ) → spread f xs ≤ spread (λ (x : ℕ). 1) xs
unfolding spread joined
le_ones f [] = le_refl 0
le_ones f (x ∷ xs) =
    rw (spread-cons f x xs, spread-cons (λ (x : ℕ). 1) x xs)
    (add-le-add (mul-le-mul_right (2 ^ (8 * length xs)) (omega arith)) (le_ones f xs))

-- XOR of two lists, bit by bit
xor-each : (f : ℕ → ℕ) → ((a b : ℕ) → f (bit_xor a b) % 2 ≡ bit_xor (f a % 2) (f b % 2)) → (xs ys : List ℕ)
    → xor_each (map (λ (x : ℕ). f x % 2) xs) (map (λ (x : ℕ). f x % 2) ys) ≡ map (λ (x : ℕ). f x % 2) (xor_each xs ys)
unfolding xor_each
xor-each f law [] ys = refl
xor-each f law (x ∷ xs) [] = refl
xor-each f law (x ∷ xs) (y ∷ ys) = ap₂ (λ (a : ℕ) (bs : List ℕ). a ∷ bs) (sym (law x y)) (xor-each f law xs ys)

pub spread-xor : (f : ℕ → ℕ) → ((a b : ℕ) → f (bit_xor a b) % 2 ≡ bit_xor (f a % 2) (f b % 2)) → (xs ys : List ℕ) → length xs ≡ length ys
    → bit_xor (spread f xs) (spread f ys) ≡ spread f (xor_each xs ys)
unfolding spread
spread-xor f law xs ys e =
    let bit : ℕ → ℕ = λ x. f x % 2 in
    let small = map-bytes bit (λ x. omega arith) in
    sym (joined-xor_each (map bit xs) (map bit ys) (small xs) (small ys) (length-map xs bit ∙ e ∙ sym (length-map ys bit))) ∙ ap joined (xor-each f law xs ys)

-- two functions with the same values at the numbers below m
pub alike : (m : ℕ) (f g : ℕ → ℕ) → numbered f m 0 ≡ numbered g m 0 → (n : ℕ) → n < m → f n ≡ g n
alike m f g same n h =
    ap f (sym (zero-add n)) ∙ sym (numbered-at f m 0 n 0 h) ∙ ap (λ (t : List ℕ). get_or t n 0) same ∙ numbered-at g m 0 n 0 h ∙ ap g (zero-add n)

-- bits that are the same at the numbers of four bits
pub same_bits : (e h g : ℕ → ℕ) → ((n : ℕ) → n < 16 → e n % 2 ≡ h (g n) % 2) → (ns : List ℕ) → ((i : ℕ) → get_or ns i 0 < 16) → spread e ns ≡ spread h (map g ns)
unfolding spread joined
same_bits e h g same [] small = refl
same_bits e h g same (n ∷ ns) small =
    spread-cons e n ns
    ∙ ap₂ (λ (a b : ℕ). a * 2 ^ (8 * length ns) + b) (same n (small 0)) (same_bits e h g same ns (λ i. small (suc i)))
    ∙ ap (λ (k : ℕ). h (g n) % 2 * 2 ^ (8 * k) + spread h (map g ns)) (sym (length-map ns g))
    ∙ sym (spread-cons h (g n) (map g ns))

-- a function with values of four bits at the numbers of four bits
pub small-map : (g : ℕ → ℕ) → ((n : ℕ) → n < 16 → g n < 16) → (ns : List ℕ) → ((i : ℕ) → get_or ns i 0 < 16) → (i : ℕ) → get_or (map g ns) i 0 < 16
small-map g below [] small i = zero-lt-suc 15
small-map g below (n ∷ ns) small zero = below n (small 0)
small-map g below (n ∷ ns) small (suc i) = small-map g below ns (λ j. small (suc j)) i

pub small_low : (xs : List ℕ) (i : ℕ) → get_or (map (λ (x : ℕ). x % 16) xs) i 0 < 16
small_low [] i = zero-lt-suc 15
small_low (x ∷ xs) zero = mod-lt x (zero-lt-suc 15)
small_low (x ∷ xs) (suc i) = small_low xs i

pub small-xor : (ms ns : List ℕ) → ((i : ℕ) → get_or ms i 0 < 16) → ((i : ℕ) → get_or ns i 0 < 16) → (i : ℕ) → get_or (xor_each ms ns) i 0 < 16
unfolding xor_each
small-xor [] ns hm hn i = zero-lt-suc 15
small-xor (m ∷ ms) [] hm hn i = zero-lt-suc 15
small-xor (m ∷ ms) (n ∷ ns) hm hn zero = xor_lt 4 m n (hm 0) (hn 0)
small-xor (m ∷ ms) (n ∷ ns) hm hn (suc i) = small-xor ms ns (λ j. hm (suc j)) (λ j. hn (suc j)) i

-- divisions by two numbers in either order
div-comm : (w m n : ℕ) → w / m / n ≡ w / n / m
div-comm w m n = div-div-eq-div-mul w m n ∙ ap (λ (k : ℕ). w / k) (mul_comm m n) ∙ sym (div-div-eq-div-mul w n m)

-- a word divided by m, "and" ONES: one bit of each of the word's bytes, which is h's at the number that g takes from that byte
module _ (h g : ℕ → ℕ) (m w : ℕ) (bits : (y : ℕ) → y / m % 2 ≡ h (g (y % 256)) % 2) where
  bit : (n : ℕ) → n < 8 → bit_and (w / m) 0x0101_0101_0101_0101 / 2 ^ (8 * n) % 256 ≡ h (g (w / 2 ^ (8 * n) % 256)) % 2
  unfolding numbered
  bit n l =
      let one : 0x0101_0101_0101_0101 / 2 ^ (8 * n) % 256 ≡ 1 =
      alike 8 (λ (n : ℕ). 0x0101_0101_0101_0101 / 2 ^ (8 * n) % 256) (λ (n : ℕ). 1) refl n l in
      rw (and_shr (w / m) 0x0101_0101_0101_0101 (8 * n), and_mod (w / m / 2 ^ (8 * n)) (0x0101_0101_0101_0101 / 2 ^ (8 * n)) 8, one)
      (and_mask (w / m / 2 ^ (8 * n) % 256) 1 ∙ rw (div-comm w m (2 ^ (8 * n))) (omega (arith, bits (w / 2 ^ (8 * n)))))

  bits-split : (n : ℕ) → n ≤ 8 → split n (bit_and (w / m) 0x0101_0101_0101_0101) ≡ map (λ (x : ℕ). h x % 2) (map g (split n w))
  unfolding split
  bits-split zero l = refl
  bits-split (suc n) l = ap₂ (λ (a : ℕ) (bs : List ℕ). a ∷ bs) (bit n l) (bits-split n (omega arith))

  pub taken : bit_and (w / m) 0x0101_0101_0101_0101 ≡ spread h (map g (split 8 w))
  unfolding spread
  taken =
      sym (joined-split 8 (bit_and (w / m) 0x0101_0101_0101_0101) (lt_of_le_of_lt (and_le_r (w / m) 0x0101_0101_0101_0101) (omega arith)))
      ∙ ap joined (bits-split 8 (omega arith))

-- a word's bytes, each shifted right by four bits
pub upper : (n w : ℕ) → map (λ (x : ℕ). x % 16) (split n (w / 16)) ≡ map (λ (x : ℕ). x / 16) (split n w)
unfolding split
upper zero w = refl
upper (suc n) w =
    ap₂ (λ (a : ℕ) (bs : List ℕ). a ∷ bs) (rw (div-comm w 16 (2 ^ (8 * n))) (omega arith)) (upper n w)

-- a multiple and a sum of what words hold, byte by byte
gathered : (k f g p a b : ℕ) → (f * p + a) * k + (g * p + b) ≡ (f * k + g) * p + (a * k + b)
gathered k f g p a b =
    let turn : f * k * p ≡ f * p * k = mul_assoc f k p ∙ ap (λ (n : ℕ). f * n) (mul_comm k p) ∙ sym (mul_assoc f p k) in
    omega (arith, turn, add-mul (f * p) a k, add-mul (f * k) g p)

pub joined-sum : (k : ℕ) (f g : ℕ → ℕ) (xs : List ℕ) → joined (map f xs) * k + joined (map g xs) ≡ joined (map (λ (x : ℕ). f x * k + g x) xs)
unfolding joined
joined-sum k f g [] = omega (arith, zero-mul k)
joined-sum k f g (x ∷ xs) =
    rw (length-map xs f, length-map xs g, length-map xs (λ (x : ℕ). f x * k + g x), ← (joined-sum k f g xs))
    (gathered k (f x) (g x) (2 ^ (8 * length xs)) (joined (map f xs)) (joined (map g xs)))

map-self : (f : ℕ → ℕ) → ((n : ℕ) → n < 16 → f n ≡ n) → (ns : List ℕ) → ((i : ℕ) → get_or ns i 0 < 16) → map f ns ≡ ns
map-self f self [] small = refl
map-self f self (n ∷ ns) small = ap₂ (λ (a : ℕ) (bs : List ℕ). a ∷ bs) (self n (small 0)) (map-self f self ns (λ i. small (suc i)))

pub sum-of-bits : (ns : List ℕ) → ((i : ℕ) → get_or ns i 0 < 16)
    → spread (λ (n : ℕ). n / 8) ns * 8 + spread (λ (n : ℕ). n / 4) ns * 4 + spread (λ (n : ℕ). n / 2) ns * 2 + spread (λ (n : ℕ). n) ns ≡ joined ns
unfolding spread numbered
sum-of-bits ns small =
    let whole : ℕ → ℕ = λ n. n / 8 % 2 * 8 + (n / 4 % 2 * 4 + (n / 2 % 2 * 2 + n % 2)) in
    let last = joined-sum 2 (λ (n : ℕ). n / 2 % 2) (λ (n : ℕ). n % 2) ns in
    let more = joined-sum 4 (λ (n : ℕ). n / 4 % 2) (λ (n : ℕ). n / 2 % 2 * 2 + n % 2) ns in
    let all = joined-sum 8 (λ (n : ℕ). n / 8 % 2) (λ (n : ℕ). n / 4 % 2 * 4 + (n / 2 % 2 * 2 + n % 2)) ns in
    omega (arith, last, more, all) ∙ ap joined (map-self whole (alike 16 whole (λ (n : ℕ). n) refl) ns small)

-- no word of bits is above ONES
pub spread-le : (f : ℕ → ℕ) (ns : List ℕ) → length ns ≡ 8 → spread f ns ≤ 0x0101_0101_0101_0101
spread-le f ns e = rw (ones-spread ns e) (le_ones f ns)
