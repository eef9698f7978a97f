-- Joining and splitting undo each other, and XOR can be taken before or after either, for any number of bytes.
-- Assumes nothing.
use mathlib.Core.Path.{◌≡◌, refl, sym, ap, ◌∙◌}
use mathlib.Core.List.{List, [], ◌∷◌, ◌++◌, map}
use Prim.Native.Nat.{ℕ, zero, suc, ◌+◌, ◌*◌, ◌/◌, ◌%◌, ◌^◌, ◌<◌}
use native.Mathlib.Nat.{zero-add, suc-add, add_comm, mul-suc, mul-add, mod-lt, mod-one, div-one, mod-eq_of_lt, zero-lt-suc, suc_inj}
use native.Mathlib.Nat.{mul-add-div_right, mul-add-mod_self_right}
use native.Mathlib.Omega.{arith}
use lib.Arith.{digits_lt}
use lib.Pow.{pow-add, pow_pos, mod-pow-add, shr-shr, high}
use lib.ListN.{length, take, drop, length-append}
use lib.Bits.{xor_block, xor_shr, xor_mod, xor_lt}
use Rattle.fox_layers.specs.Words.{◌⊕◌, joined, split, Bytes, xor_each}

-- 2 ^ (8 * suc n), the number of words of n + 1 bytes
pub pow-byte : (n : ℕ) → 2 ^ (8 * suc n) ≡ 256 * 2 ^ (8 * n)
pow-byte n = ap (λ (k : ℕ). 2 ^ k) (mul-suc 8 n ∙ add_comm (8 * n) 8) ∙ pow-add 2 8 (8 * n)

pub length-split : (n w : ℕ) → length (split n w) ≡ n
unfolding split
length-split zero w = refl
length-split (suc n) w = ap suc (length-split n w)

pub split-bytes : (n w : ℕ) → Bytes (split n w)
unfolding split
split-bytes zero w i = zero-lt-suc 255
split-bytes (suc n) w zero = mod-lt (w / 2 ^ (8 * n)) (zero-lt-suc 255)
split-bytes (suc n) w (suc i) = split-bytes n w i

pub joined-lt : (xs : List ℕ) → Bytes xs → joined xs < 2 ^ (8 * length xs)
unfolding joined
joined-lt [] h = zero-lt-suc 0
joined-lt (x ∷ xs) h = rw (pow-byte (length xs)) (digits_lt (h 0) (joined-lt xs (λ i. h (suc i))))

-- the bits above the lowest n bytes of a word do not change its split
pub split-above : (n h w : ℕ) → split n (h * 2 ^ (8 * n) + w) ≡ split n w
unfolding split
split-above zero h w = refl
split-above (suc n) h w =
    let above : h * 2 ^ (8 * suc n) ≡ h * 256 * 2 ^ (8 * n) = rw (pow-byte n) (omega arith) in
    let byte = mul-add-mod_self_right h 256 (w / 2 ^ (8 * n)) in
    rw (above, mul-add-div_right (pow_pos (8 * n)) (h * 256) w, byte, split-above n (h * 256) w)

-- the bytes above the lowest n, followed by these
pub split_parts : (m n w : ℕ) → split (m + n) w ≡ split m (w / 2 ^ (8 * n)) ++ split n w
unfolding split
split_parts zero n w = ap (λ (k : ℕ). split k w) (zero-add n)
split_parts (suc m) n w =
    let place : 8 * (m + n) ≡ 8 * n + 8 * m = omega arith in
    rw (suc-add m n, place, ← (shr-shr w (8 * n) (8 * m)), split_parts m n w)

-- the bytes of a split, joined again, are the word's lowest n bytes
pub joined-split-low : (n w : ℕ) → joined (split n w) ≡ w % 2 ^ (8 * n)
unfolding joined split
joined-split-low zero w = sym (mod-one w)
joined-split-low (suc n) w =
    rw (length-split n w, joined-split-low n w, ← (mod-pow-add w 8 (8 * n)), mul-suc, add_comm 8 (8 * n))

pub joined-split : (n w : ℕ) → w < 2 ^ (8 * n) → joined (split n w) ≡ w
joined-split n w h = joined-split-low n w ∙ mod-eq_of_lt h

pub split-joined : (xs : List ℕ) → Bytes xs → split (length xs) (joined xs) ≡ xs
unfolding joined split
split-joined [] h = refl
split-joined (x ∷ xs) h =
    let below = joined-lt xs (λ i. h (suc i)) in
    rw (high x (8 * length xs) below, mod-eq_of_lt (h 0), split-above (length xs) x (joined xs), split-joined xs (λ i. h (suc i)))

pub joined-append : (xs ys : List ℕ) → joined (xs ++ ys) ≡ joined xs * 2 ^ (8 * length ys) + joined ys
unfolding joined
joined-append [] ys = omega arith
joined-append (x ∷ xs) ys =
    rw (length-append xs ys, mul-add 8 (length xs) (length ys), pow-add 2 (8 * length xs) (8 * length ys), joined-append xs ys) (omega arith)

pub length-xor_each : (xs ys : List ℕ) → length xs ≡ length ys → length (xor_each xs ys) ≡ length xs
unfolding xor_each
length-xor_each [] ys e = refl
length-xor_each (x ∷ xs) [] e = absurd (omega arith)
length-xor_each (x ∷ xs) (y ∷ ys) e = ap suc (length-xor_each xs ys (suc_inj e))

pub joined-xor_each : (xs ys : List ℕ) → Bytes xs → Bytes ys → length xs ≡ length ys → joined (xor_each xs ys) ≡ joined xs ⊕ joined ys
unfolding joined xor_each
joined-xor_each [] [] hx hy e = refl
joined-xor_each [] (y ∷ ys) hx hy e = absurd (omega arith)
joined-xor_each (x ∷ xs) [] hx hy e = absurd (omega arith)
joined-xor_each (x ∷ xs) (y ∷ ys) hx hy e =
    let n : length xs ≡ length ys = suc_inj e in
    let bound : joined ys < 2 ^ (8 * length xs) = rw n (joined-lt ys (λ i. hy (suc i))) in
    rw (length-xor_each xs ys n, joined-xor_each xs ys (λ i. hx (suc i)) (λ i. hy (suc i)) n, ← n)
    (sym (xor_block (8 * length xs) x y (joined xs) (joined ys) (joined-lt xs (λ i. hx (suc i))) bound))

pub map-bytes : {A : Type 0} (f : A → ℕ) → ((a : A) → f a < 256) → (xs : List A) → Bytes (map f xs)
map-bytes f h [] i = zero-lt-suc 255
map-bytes f h (x ∷ xs) zero = h x
map-bytes f h (x ∷ xs) (suc i) = map-bytes f h xs i

pub take-bytes : (n : ℕ) (xs : List ℕ) → Bytes xs → Bytes (take n xs)
take-bytes zero xs h i = zero-lt-suc 255
take-bytes (suc n) [] h i = zero-lt-suc 255
take-bytes (suc n) (x ∷ xs) h zero = h 0
take-bytes (suc n) (x ∷ xs) h (suc i) = take-bytes n xs (λ k. h (suc k)) i

pub drop-bytes : (n : ℕ) (xs : List ℕ) → Bytes xs → Bytes (drop n xs)
drop-bytes zero xs h i = h i
drop-bytes (suc n) [] h i = zero-lt-suc 255
drop-bytes (suc n) (x ∷ xs) h i = drop-bytes n xs (λ k. h (suc k)) i

pub append-bytes : (xs ys : List ℕ) → Bytes xs → Bytes ys → Bytes (xs ++ ys)
append-bytes [] ys hx hy i = hy i
append-bytes (x ∷ xs) ys hx hy zero = hx 0
append-bytes (x ∷ xs) ys hx hy (suc i) = append-bytes xs ys (λ k. hx (suc k)) hy i

pub xor_each-bytes : (xs ys : List ℕ) → Bytes xs → Bytes ys → Bytes (xor_each xs ys)
unfolding xor_each
xor_each-bytes [] ys hx hy i = zero-lt-suc 255
xor_each-bytes (x ∷ xs) [] hx hy i = zero-lt-suc 255
xor_each-bytes (x ∷ xs) (y ∷ ys) hx hy zero = xor_lt 8 x y (hx 0) (hy 0)
xor_each-bytes (x ∷ xs) (y ∷ ys) hx hy (suc i) = xor_each-bytes xs ys (λ k. hx (suc k)) (λ k. hy (suc k)) i

pub split-xor : (n v w : ℕ) → split n (v ⊕ w) ≡ xor_each (split n v) (split n w)
unfolding split xor_each
split-xor zero v w = refl
split-xor (suc n) v w =
    rw (xor_shr v w (8 * n), split-xor n v w) (ap (λ (b : ℕ). b ∷ xor_each (split n v) (split n w)) (xor_mod (v / 2 ^ (8 * n)) (w / 2 ^ (8 * n)) 8))

-- the bytes of a word of four and of eight, as code computes them: the last is not divided
pub split-4 : (w : ℕ) → split 4 w ≡ w / 0x1000000 % 256 ∷ w / 0x10000 % 256 ∷ w / 0x100 % 256 ∷ w % 256 ∷ []
unfolding split
split-4 w = rw div-one

pub split-8 : (w : ℕ) → split 8 w ≡ w / 0x100000000000000 % 256 ∷ w / 0x1000000000000 % 256 ∷ w / 0x10000000000 % 256 ∷ w / 0x100000000 % 256
    ∷ w / 0x1000000 % 256 ∷ w / 0x10000 % 256 ∷ w / 0x100 % 256 ∷ w % 256 ∷ []
unfolding split
split-8 w = rw div-one
