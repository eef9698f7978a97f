-- Decimal numbers from 0 to a limit, with no leading zero.
-- Assumes nothing.
use Rattle.std.specs.Prelude.{◌≡◌, ℕ, zero, suc, ◌+◌, ◌-◌, ◌*◌, ◌/◌, ◌%◌, Bool, true, false, cond, not, ◌&&◌, List, [], ◌∷◌, ◌++◌, Option, Some, None, leb, ltb, eqb}

abbrev pub is_digit : ℕ → Bool
is_digit d = leb 48 d && leb d 57

unfoldable pub all_digits : List ℕ → Bool
all_digits [] = true
all_digits (d ∷ ds) = is_digit d && all_digits ds

-- the value of the digits ds appended to the number v
unfoldable pub onward : ℕ → List ℕ → ℕ
onward v [] = v
onward v (d ∷ ds) = onward (v * 10 + (d - 48)) ds

abbrev pub decimal_of : List ℕ → ℕ
decimal_of ds = onward 0 ds

-- whether there is at least one digit, and no leading zero
unfoldable pub begins : List ℕ → Bool
begins [] = false
begins (d ∷ []) = true
begins (d ∷ e ∷ ds) = not (eqb d 48)

unfoldable pub in_range : ℕ → List ℕ → Bool
in_range most ds = all_digits ds && leb (decimal_of ds) most

unfoldable pub is_decimal : ℕ → List ℕ → Bool
is_decimal most ds = begins ds && in_range most ds

-- what reading returns: the number where the text is a decimal in range
pub record Found (ok : Bool) (n : ℕ) (r : Option ℕ) : Type 0 where
  pub number : r ≡ cond ok (Some n) None

-- the last k digits of a number, or all of its digits, with no leading zero, where it has at most k
unfoldable pub digits_text : ℕ → ℕ → List ℕ
digits_text zero n = []
digits_text (suc k) n = cond (ltb n 10) ((48 + n) ∷ []) (digits_text k (n / 10) ++ ((48 + n % 10) ∷ []))

-- a number below 100,000 as text
abbrev pub decimal_text : ℕ → List ℕ
decimal_text n = digits_text 5 n
