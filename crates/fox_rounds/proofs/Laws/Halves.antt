-- A number of 2·n bits is its left half and its right half.
-- Assumes nothing.
use mathlib.Core.Path.{◌≡◌, sym, ap, ◌∙◌}
use Prim.Native.Nat.{ℕ, ◌+◌, ◌*◌, ◌/◌, ◌%◌, ◌^◌, ◌<◌}
use native.Mathlib.Nat.{mod-lt, mod-eq_of_lt, mul_assoc, mul-add-mod_self_right, mul-add-div_right}
use lib.Pow.{pow-add, pow_pos, high, low, recompose, shr_mod}
use Rattle.fox_rounds.specs.Rounds.{left, right}

pub left_lt : (n w : ℕ) → left n w < 2 ^ n
unfolding left
left_lt n w = mod-lt (w / 2 ^ n) (pow_pos n)

pub right_lt : (n w : ℕ) → right n w < 2 ^ n
unfolding right
right_lt n w = mod-lt w (pow_pos n)

-- where no bit is set above the two halves
pub left-div : (n w : ℕ) → w < 2 ^ (n + n) → left n w ≡ w / 2 ^ n
unfolding left
left-div n w h = shr_mod n n h

pub left-pair : (n a b : ℕ) → a < 2 ^ n → b < 2 ^ n → left n (a * 2 ^ n + b) ≡ a
unfolding left
left-pair n a b ha hb = ap (λ (m : ℕ). m % 2 ^ n) (high a n hb) ∙ mod-eq_of_lt ha

pub right-pair : (n a b : ℕ) → b < 2 ^ n → right n (a * 2 ^ n + b) ≡ b
unfolding right
right-pair n a b hb = low a n hb

pub pair : (n w : ℕ) → w < 2 ^ (n + n) → left n w * 2 ^ n + right n w ≡ w
unfolding left right
pair n w h = recompose n n h

-- bits above the two halves do not count
above : (n a b : ℕ) → a * 2 ^ (n + n) + b ≡ a * 2 ^ n * 2 ^ n + b
above n a b = ap (λ (m : ℕ). m + b) (ap (λ (m : ℕ). a * m) (pow-add 2 n n) ∙ sym (mul_assoc a (2 ^ n) (2 ^ n)))

pub right-low : (n a b : ℕ) → right n (a * 2 ^ (n + n) + b) ≡ right n b
unfolding right
right-low n a b = ap (λ (w : ℕ). w % 2 ^ n) (above n a b) ∙ mul-add-mod_self_right (a * 2 ^ n) (2 ^ n) b

pub left-low : (n a b : ℕ) → left n (a * 2 ^ (n + n) + b) ≡ left n b
unfolding left
left-low n a b =
    ap (λ (w : ℕ). w / 2 ^ n % 2 ^ n) (above n a b)
    ∙ ap (λ (w : ℕ). w % 2 ^ n) (mul-add-div_right (pow_pos n) (a * 2 ^ n) b)
    ∙ mul-add-mod_self_right a (2 ^ n) (b / 2 ^ n)
