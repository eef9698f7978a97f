-- Decimals: one digit further, what holds of well-formed digits, and digits as they are written.
-- Assumes nothing.
use mathlib.Core.Path.{◌≡◌, refl}
use mathlib.Core.List.{List, [], ◌∷◌, ◌++◌}
use mathlib.Core.Bool.{Bool, true, false, cond, not, ◌&&◌}
use Prim.Native.Nat.{ℕ, zero, suc, ◌+◌, ◌-◌, ◌*◌, ◌/◌, ◌%◌, ◌^◌, ◌≤◌, ◌<◌}
use native.Mathlib.Nat.{pow-succ', mul_assoc, le_trans, mul-le-mul_right, pow-le-pow_right}
use native.Mathlib.Omega.{arith}
use lib.ListN.{length, drop, get_or, drop_of_length-le}
use lib.Dec.{leb, ltb, eqb}
use borrow.Author.Tests.{le-leb, lt-leb, leb-true, ltb-true, ltb-false, eqb-false, not-true}
use Rattle.std.specs.Prelude.{Some, None}
use Rattle.fox_text.specs.Decimal.{is_digit, all_digits, onward, decimal_of, begins, in_range, is_decimal, Found, digits_text}
use Rattle.fox_text.proofs.Laws.Tests.{both, by-test}
use Rattle.fox_text.proofs.Laws.Lines.{from-here}

-- what reading returns

pub not_found : {ok : Bool} (n : ℕ) → ok ≡ false → Found ok n None
not_found n e = record { number = rw e }

pub is_found : {ok : Bool} {n v : ℕ} → ok ≡ true → v ≡ n → Found ok n (Some v)
is_found e same = record { number = rw (e, same) }

-- one digit further

pub digits-here : (ds : List ℕ) (i : ℕ) → i < length ds → all_digits (drop i ds) ≡ (is_digit (get_or ds i 0) && all_digits (drop (i + 1) ds))
unfolding all_digits
digits-here ds i h = rw (from-here ds i h)

pub onward-here : (v : ℕ) (ds : List ℕ) (i : ℕ) → i < length ds → onward v (drop i ds) ≡ onward (v * 10 + (get_or ds i 0 - 48)) (drop (i + 1) ds)
unfolding onward
onward-here v ds i h = rw (from-here ds i h)

pub digits-done : (v : ℕ) (ds : List ℕ) (i : ℕ) → length ds ≤ i → (all_digits (drop i ds) ≡ true) × (onward v (drop i ds) ≡ v)
unfolding all_digits onward
digits-done v ds i h = (rw (drop_of_length-le ds h), rw (drop_of_length-le ds h))

-- more digits give no smaller number
pub grows : (v : ℕ) (ds : List ℕ) → v ≤ onward v ds
unfolding onward
grows v [] = omega arith
grows v (d ∷ ds) = omega (arith, grows (v * 10 + (d - 48)) ds)

-- a byte that is no digit, or a value above the limit, settles the answer

pub no-digits : (most : ℕ) (ds : List ℕ) → all_digits ds ≡ false → in_range most ds ≡ false
unfolding in_range
no-digits most ds e = rw e

pub too_large : (most : ℕ) (ds : List ℕ) → most < decimal_of ds → in_range most ds ≡ false
unfolding in_range
too_large most ds h = rw (lt-leb (decimal_of ds) most h) (by-test (all_digits ds) (λ e. rw e) (λ e. rw e))

pub in-range : (most : ℕ) (ds : List ℕ) → all_digits ds ≡ true → decimal_of ds ≤ most → in_range most ds ≡ true
unfolding in_range
in-range most ds e h = rw (e, le-leb (decimal_of ds) most h)

-- how a decimal begins, by the number of its digits

pub begins-none : (ds : List ℕ) → length ds < 1 → false ≡ begins ds
unfolding begins
begins-none [] h = refl
begins-none (d ∷ ds) h = absurd (omega arith)

pub begins-one : (ds : List ℕ) → length ds ≡ 1 → true ≡ begins ds
unfolding begins
begins-one [] h = absurd (omega arith)
begins-one (d ∷ []) h = refl
begins-one (d ∷ e ∷ ds) h = absurd (omega arith)

pub begins-long : (ds : List ℕ) → 2 ≤ length ds → not (eqb (get_or ds 0 0) 48) ≡ begins ds
unfolding begins
begins-long [] h = absurd (omega arith)
begins-long (d ∷ []) h = absurd (omega arith)
begins-long (d ∷ e ∷ ds) h = refl

pub begun : (most : ℕ) (ds : List ℕ) → begins ds ≡ true → is_decimal most ds ≡ in_range most ds
unfolding is_decimal
begun most ds e = rw e

pub not-begun : (most : ℕ) (ds : List ℕ) → begins ds ≡ false → is_decimal most ds ≡ false
unfolding is_decimal
not-begun most ds e = rw e

-- what holds of well-formed digits

pub record Digits (most : ℕ) (ds : List ℕ) : Type 0 where
  pub first : begins ds ≡ true
  pub all : all_digits ds ≡ true
  pub small : decimal_of ds ≤ most

pub decimal-digits : (most : ℕ) (ds : List ℕ) → is_decimal most ds ≡ true → Digits most ds
unfolding is_decimal in_range
decimal-digits most ds e =
    let (first, range) = both (begins ds) (all_digits ds && leb (decimal_of ds) most) e in
    let (all, small) = both (all_digits ds) (leb (decimal_of ds) most) range in
    record { first = first; all = all; small = leb-true (decimal_of ds) most small }

pub record Digit (d : ℕ) : Type 0 where
  pub low : 48 ≤ d
  pub high : d ≤ 57

pub digit-known : (d : ℕ) → is_digit d ≡ true → Digit d
digit-known d e =
    let (low, high) = both (leb 48 d) (leb d 57) e in
    record { low = leb-true 48 d low; high = leb-true d 57 high }

-- a first digit that is not 0 has a value of at least 1
pub first-digit : {most : ℕ} (d x : ℕ) (ds : List ℕ) → Digits most (d ∷ x ∷ ds) → 49 ≤ d
unfolding begins all_digits
first-digit d x ds r =
    let here = digit-known d (both (is_digit d) (all_digits (x ∷ ds)) r.all).0 in
    let other = eqb-false d 48 (not-true (eqb d 48) r.first) in
    omega arith

-- the digits ds appended to v give at least v times their power of ten
onward-low : (v : ℕ) (ds : List ℕ) → v * 10 ^ length ds ≤ onward v ds
unfolding onward
onward-low v [] = omega arith
onward-low v (d ∷ ds) =
    let next = onward-low (v * 10 + (d - 48)) ds in
    let more : v * 10 * 10 ^ length ds ≤ (v * 10 + (d - 48)) * 10 ^ length ds = mul-le-mul_right (10 ^ length ds) (omega arith) in
    rw (pow-succ' 10 (length ds), ← mul_assoc v 10 (10 ^ length ds)) (le_trans more next)

-- so a decimal below 100,000 has at most five digits: one of six or more that does not begin with 0 is at least 100,000
pub decimal-length : (most : ℕ) (ds : List ℕ) → most < 100000 → is_decimal most ds ≡ true → length ds ≤ 5
unfolding onward
decimal-length most [] top e = omega arith
decimal-length most (d ∷ []) top e = omega arith
decimal-length most (d ∷ x ∷ ds) top e =
    let r = decimal-digits most (d ∷ x ∷ ds) e in
    let one = first-digit d x ds r in
    let v = 0 * 10 + (d - 48) in
    let low = onward-low v (x ∷ ds) in
    by-test (ltb 4 (suc (length ds)))
    (λ q.
    let many : 5 ≤ suc (length ds) = ltb-true 4 (suc (length ds)) q in
    let power : 100000 ≤ 10 ^ suc (length ds) = pow-le-pow_right {n = 10} (omega arith) {i = 5} many in
    let times : 1 * 10 ^ suc (length ds) ≤ v * 10 ^ suc (length ds) = mul-le-mul_right (10 ^ suc (length ds)) (omega arith) in
    let small = r.small in
    absurd (omega arith))
    (λ q. let few = ltb-false 4 (suc (length ds)) q in omega arith)

-- the digits written, where there is room for at least one
pub digits_more : (k n : ℕ) → 0 < k → digits_text k n ≡ cond (ltb n 10) ((48 + n) ∷ []) (digits_text (k - 1) (n / 10) ++ ((48 + n % 10) ∷ []))
unfolding digits_text
digits_more zero n h = absurd (omega arith)
digits_more (suc k) n h =
    let e : suc k - 1 ≡ k = omega arith in
    rw e
