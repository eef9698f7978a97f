-- Pairs of hex digits: one digit or one pair further, and what holds of well-formed digits and pairs.
-- Assumes nothing.
use mathlib.Core.Path.{◌≡◌, refl, sym, ◌∙◌}
use mathlib.Core.List.{List, [], ◌∷◌, ◌++◌}
use mathlib.Core.Bool.{Bool, true, ◌&&◌}
use Prim.Native.Nat.{ℕ, ◌+◌, ◌*◌, ◌/◌, ◌%◌, ◌≤◌, ◌<◌}
use native.Mathlib.Numerals.{add-one}
use native.Mathlib.Omega.{arith}
use lib.ListN.{length, get_or, set}
use lib.Seq.{sets}
use lib.Dec.{leb, ltb, eqb}
use borrow.Author.Tests.{leb-true, eqb-true, ltb-true, ltb-false}
use Rattle.std.specs.List.{list_all}
use Rattle.fox_text.specs.Decimal.{is_digit}
use Rattle.fox_text.specs.Hex.{is_hex, all_hex, is_pairs, nibble, pairs_of, Joins, hex_text}
use Rattle.fox_text.proofs.Laws.Tests.{both, by-test}

pub hex-all : (ds : List ℕ) → list_all is_hex ds ≡ all_hex ds
unfolding all_hex
hex-all [] = refl
hex-all (d ∷ ds) = rw (hex-all ds) refl

-- what holds of a hex digit: it is in one of two ranges, and its value is below 16
pub record Ranges (d : ℕ) : Type 0 where
  pub low : 48 ≤ d
  pub high : d ≤ 70
  pub between : d < 65 → d ≤ 57

within : (l h d : ℕ) → (leb l d && leb d h) ≡ true → (l ≤ d) × (d ≤ h)
within l h d e =
    let (low, high) = both (leb l d) (leb d h) e in
    (leb-true l d low, leb-true d h high)

pub ranges : (d : ℕ) → is_hex d ≡ true → Ranges d
ranges d e =
    by-test (is_digit d) (λ p. let (l, h) = within 48 57 d p in record { low = l; high = omega arith; between = λ _. h })
    (λ p. let (l, h) = within 65 70 d (rw p at e) in record { low = omega arith; high = h; between = λ k. omega arith })

pub nibble-small : (d : ℕ) → is_hex d ≡ true → nibble d < 16
unfolding nibble
nibble-small d e =
    let r = ranges d e in
    by-test (ltb d 65) (λ p. rw p (omega (arith, r.between (ltb-true d 65 p)))) (λ p. rw p (omega (arith, r.high, ltb-false d 65 p)))

-- no pair is left after the last
pairs_end : (ds : List ℕ) → length ds < 2 → pairs_of ds ≡ []
unfolding pairs_of
pairs_end [] h = refl
pairs_end (a ∷ []) h = refl
pairs_end (a ∷ b ∷ ds) h = absurd (omega arith)

-- a pair before others: its digits and the others' are hex digits, and it is joined and stored, with the others still to be stored

pub record HexPair (l p ds : List ℕ) : Type 0 where
  pub first : is_hex (get_or p 0 0) ≡ true
  pub second : is_hex (get_or p 1 0) ≡ true
  pub high : nibble (get_or p 0 0) < 16
  pub low : nibble (get_or p 1 0) < 16
  pub others : all_hex ds ≡ true
  pub long : length l ≡ length ds + 2

pub hex-pair : {l : List ℕ} (p ds : List ℕ) → length p ≡ 2 → l ≡ p ++ ds → all_hex l ≡ true → HexPair l p ds
unfolding all_hex
hex-pair [] ds two e h = absurd (omega arith)
hex-pair (a ∷ []) ds two e h = absurd (omega arith)
hex-pair (a ∷ b ∷ []) ds two e h =
    let (first, later) = both (is_hex a) (is_hex b && all_hex ds) (rw e at h) in
    let (second, others) = both (is_hex b) (all_hex ds) later in
    record {
      first = first;
      second = second;
      high = nibble-small a first;
      low = nibble-small b second;
      others = others;
      long = rw e (omega arith);
    }
hex-pair (a ∷ b ∷ c ∷ p) ds two e h = absurd (omega arith)

pub pair-stored : {l : List ℕ} (out p ds : List ℕ) (i x y : ℕ) → length p ≡ 2 → l ≡ p ++ ds → x ≡ nibble (get_or p 0 0) → y ≡ nibble (get_or p 1 0)
    → sets (set out i (x * 16 + y)) (i + 1) (pairs_of ds) ≡ sets out i (pairs_of l)
unfolding pairs_of
pair-stored out [] ds i x y two e p q = absurd (omega arith)
pair-stored out (a ∷ []) ds i x y two e p q = absurd (omega arith)
pair-stored out (a ∷ b ∷ []) ds i x y two e p q = rw (e, p, q, add-one i) refl
pair-stored out (a ∷ b ∷ c ∷ r) ds i x y two e p q = absurd (omega arith)

-- nothing is left to be stored after the last pair
pub pairs-done : (out ds : List ℕ) (i : ℕ) → length ds < 2 → sets out i (pairs_of ds) ≡ out
pairs-done out ds i h = rw (pairs_end ds h)

pub length_pairs : (ds : List ℕ) → length (pairs_of ds) ≡ length ds / 2
unfolding pairs_of
length_pairs [] = refl
length_pairs (a ∷ []) = refl
length_pairs (a ∷ b ∷ ds) = omega (arith, length_pairs ds)

pub length-hex-text : (bs : List ℕ) → length (hex_text bs) ≡ length bs * 2
unfolding hex_text
length-hex-text [] = refl
length-hex-text (b ∷ bs) = omega (arith, length-hex-text bs)

-- what holds of digits that are pairs
pub record Even (most : ℕ) (ds : List ℕ) : Type 0 where
  pub even : length ds % 2 ≡ 0
  pub few : length ds / 2 ≤ most
  pub hex : all_hex ds ≡ true

pub even-pairs : (most : ℕ) (ds : List ℕ) → is_pairs most ds ≡ true → Even most ds
even-pairs most ds e =
    let n = length ds in
    let (first, hex) = both (eqb (n % 2) 0 && leb (n / 2) most) (all_hex ds) e in
    let (even, few) = both (eqb (n % 2) 0) (leb (n / 2) most) first in
    record { even = eqb-true (n % 2) 0 even; few = leb-true (n / 2) most few; hex = hex }

pub joinable : (a b : Bool) (most : ℕ) (ds out : List ℕ) → (a && b) ≡ true → b ≡ is_pairs most ds → most ≤ length out → Joins ds out
joinable a b most ds out e is room =
    let p = even-pairs most ds (sym is ∙ (both a b e).1) in
    record { hex = p.hex; room = omega (arith, p.even, p.few) }
