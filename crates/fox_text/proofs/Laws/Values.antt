-- Lines of a name and a value: what is written reads back the same, and a well-formed line is as it would be written. A number's digits, read from the left,
-- give it digit by digit; the first digit written is not 0, unless the number is 0. Two hex digits are the two halves of a byte.
-- Assumes nothing.
use mathlib.Core.Path.{◌≡◌, refl, sym, ap₂, ◌∙◌}
use mathlib.Core.Bool.{true, false, ◌&&◌, true≢false}
use mathlib.Core.List.{List, [], ◌∷◌, ◌++◌, append-nil}
use Prim.Native.Nat.{ℕ, zero, suc, ◌+◌, ◌-◌, ◌*◌, ◌/◌, ◌%◌, ◌^◌, ◌≤◌, ◌<◌}
use native.Mathlib.Omega.{arith}
use lib.ListN.{length, drop, get_or, drop_of_length-le}
use lib.Seq.{append_snoc, drop-append_seam}
use lib.Dec.{ltb, eqb}
use borrow.Author.Tests.{ltb-true, ltb-false, eqb-true, lt-ltb, le-ltb, le-leb, lt-leb, eq-eqb, ne_eqb}
use Rattle.fox_text.specs.Ascii.{starts_with, same}
use Rattle.fox_text.specs.Decimal.{is_digit, all_digits, onward, decimal_of, begins, in_range, is_decimal, digits_text, decimal_text}
use Rattle.fox_text.specs.Hex.{is_hex, all_hex, is_pairs, nibble, pairs_of, digit, hex_text}
use Rattle.fox_text.specs.Fields.{value_text, is_decimal_line, is_pairs_line, decimal_in, pairs_in, decimal_line, pairs_line}
use Rattle.fox_text.proofs.Laws.Tests.{both, by-test}
use Rattle.fox_text.proofs.Laws.Decimals.{digit-known, decimal-digits, first-digit, decimal-length, digits_more}
use Rattle.fox_text.proofs.Laws.Pairs.{ranges, nibble-small, length_pairs, length-hex-text, even-pairs}
use Rattle.fox_text.proofs.Laws.Prefixes.{same_length}
use Rattle.fox_text.proofs.Laws.Written.{Plain, plain-append}

-- names

pub starts-written : (name v : List ℕ) → starts_with name (name ++ v) ≡ true
unfolding starts_with
starts-written [] v = refl
starts-written (x ∷ xs) v = rw (eq-eqb x x refl) (starts-written xs v)

pub starts-split : (name l : List ℕ) → starts_with name l ≡ true → l ≡ name ++ value_text name l
unfolding starts_with
starts-split [] l e = refl
starts-split (x ∷ xs) [] e = absurd (true≢false (sym e))
starts-split (x ∷ xs) (y ∷ ys) e =
    let (first, later) = both (eqb x y) (starts_with xs ys) e in
    ap₂ (λ (z : ℕ) (zs : List ℕ). z ∷ zs) (sym (eqb-true x y first)) (starts-split xs ys later)

pub same-is : (a l : List ℕ) → same a l ≡ true → l ≡ a
same-is a l e =
    let none : drop (length a) l ≡ [] = drop_of_length-le l {i = length a} (omega (arith, same_length a l e)) in
    starts-split a l (both (eqb (length a) (length l)) (starts_with a l) e).1 ∙ rw none (append-nil a)

digit-plain : (d : ℕ) → 48 ≤ d → eqb d 10 ≡ false
digit-plain d h = ne_eqb d 10 (λ e. omega arith)

-- decimals as they are written

digits_append : (a b : List ℕ) → all_digits a ≡ true → all_digits b ≡ true → all_digits (a ++ b) ≡ true
unfolding all_digits
digits_append [] b p q = q
digits_append (d ∷ ds) b p q =
    let (first, later) = both (is_digit d) (all_digits ds) p in
    rw first (digits_append ds b later q)

onward-append : (v : ℕ) (a b : List ℕ) → onward v (a ++ b) ≡ onward (onward v a) b
unfolding onward
onward-append v [] b = refl
onward-append v (d ∷ ds) b = onward-append (v * 10 + (d - 48)) ds b

one-digit : (n : ℕ) → n < 10 → all_digits ((48 + n) ∷ []) ≡ true
unfolding all_digits
one-digit n h = rw (le-leb 48 (48 + n) (omega arith), le-leb (48 + n) 57 (omega arith))

pub text-digits : (k n : ℕ) → all_digits (digits_text k n) ≡ true
unfolding digits_text all_digits
text-digits zero n = refl
text-digits (suc k) n =
    by-test (ltb n 10) (λ e. rw e (one-digit n (ltb-true n 10 e)))
    (λ e. rw e (digits_append (digits_text k (n / 10)) _ (text-digits k (n / 10)) (one-digit (n % 10) (omega arith))))

pub text-read : (k n : ℕ) → n < 10 ^ k → decimal_of (digits_text k n) ≡ n
unfolding digits_text onward
text-read zero n h = omega arith
text-read (suc k) n h =
    by-test (ltb n 10) (λ e. rw e (omega arith))
    (λ e. rw (e, onward-append 0 (digits_text k (n / 10)) ((48 + n % 10) ∷ []), text-read k (n / 10) (omega arith)) (omega arith))

-- the text of a number that is not 0 does not begin with 0
first-append : (ds es : List ℕ) → 48 < get_or ds 0 0 → 48 < get_or (ds ++ es) 0 0
first-append [] es h = absurd (omega arith)
first-append (d ∷ ds) es h = h

text-first : (k n : ℕ) → 1 ≤ n → n < 10 ^ k → 48 < get_or (digits_text k n) 0 0
unfolding digits_text
text-first zero n low h = absurd (omega arith)
text-first (suc k) n low h =
    by-test (ltb n 10) (λ e. rw e (omega arith))
    (λ e. let ten = ltb-false n 10 e in rw e (first-append (digits_text k (n / 10)) _ (text-first k (n / 10) (omega arith) (omega arith))))

begins-snoc : (ds : List ℕ) (d : ℕ) → 48 < get_or ds 0 0 → begins (ds ++ (d ∷ [])) ≡ true
unfolding begins
begins-snoc [] d h = absurd (omega arith)
begins-snoc (x ∷ []) d h = rw (ne_eqb x 48 (λ e. omega arith))
begins-snoc (x ∷ y ∷ ds) d h = rw (ne_eqb x 48 (λ e. omega arith))

text-begins : (k n : ℕ) → n < 10 ^ suc k → begins (digits_text (suc k) n) ≡ true
unfolding digits_text begins
text-begins k n h =
    by-test (ltb n 10) (λ e. rw e)
    (λ e. let ten = ltb-false n 10 e in rw e (begins-snoc (digits_text k (n / 10)) _ (text-first k (n / 10) (omega arith) (omega arith))))

decimal-right : (most n : ℕ) → n ≤ most → n < 100000 → is_decimal most (decimal_text n) ≡ true
unfolding is_decimal in_range
decimal-right most n h top = rw (text-begins 4 n top, text-digits 5 n, text-read 5 n top) (le-leb n most h)

pub digits-plain : (ds : List ℕ) → all_digits ds ≡ true → Plain ds
unfolding all_digits Plain
digits-plain [] e = tt
digits-plain (d ∷ ds) e =
    let (first, later) = both (is_digit d) (all_digits ds) e in
    (digit-plain d (digit-known d first).low, digits-plain ds later)

-- decimals that were read, written again

text-next : (k v d : ℕ) → 1 ≤ v → is_digit d ≡ true → digits_text (suc k) (v * 10 + (d - 48)) ≡ digits_text k v ++ (d ∷ [])
unfolding digits_text
text-next k v d low e =
    let r = digit-known d e in
    let n = v * 10 + (d - 48) in
    let cut : n / 10 ≡ v = omega (arith, r.high) in
    let last : 48 + n % 10 ≡ d = omega (arith, r.low, r.high) in
    rw (le-ltb n 10 (omega arith), cut, last)

text-onward : (j k v : ℕ) (ds : List ℕ) → j ≡ k + length ds → 1 ≤ v → all_digits ds ≡ true → digits_text j (onward v ds) ≡ digits_text k v ++ ds
unfolding onward all_digits
text-onward j k v [] long low e =
    let same : j ≡ k = omega arith in
    rw same (sym (append-nil (digits_text k v)))
text-onward j k v (d ∷ ds) long low e =
    let (first, later) = both (is_digit d) (all_digits ds) e in
    text-onward j (suc k) (v * 10 + (d - 48)) ds (omega arith) (omega arith) later
    ∙ rw (text-next k v d low first) (append_snoc (digits_text k v) d ds)

text-digit : (k d : ℕ) → 1 ≤ k → is_digit d ≡ true → digits_text k (0 * 10 + (d - 48)) ≡ d ∷ []
text-digit k d some e =
    let r = digit-known d e in
    let n = 0 * 10 + (d - 48) in
    let same : 48 + n ≡ d = omega (arith, r.low) in
    digits_more k n some ∙ rw (lt-ltb n 10 (omega (arith, r.high)), same)

decimal-again : (most : ℕ) (ds : List ℕ) → most < 100000 → is_decimal most ds ≡ true → decimal_text (decimal_of ds) ≡ ds
unfolding onward begins all_digits
decimal-again most [] top e = absurd (true≢false (sym (decimal-digits most [] e).first))
decimal-again most (d ∷ []) top e = text-digit 5 d (omega arith) (both (is_digit d) true (decimal-digits most (d ∷ []) e).all).0
decimal-again most (d ∷ x ∷ ds) top e =
    let r = decimal-digits most (d ∷ x ∷ ds) e in
    let few = decimal-length most (d ∷ x ∷ ds) top e in
    let one = first-digit d x ds r in
    let (first, later) = both (is_digit d) (all_digits (x ∷ ds)) r.all in
    let k = 5 - length (x ∷ ds) in
    text-onward 5 k (0 * 10 + (d - 48)) (x ∷ ds) (omega arith) (omega arith) later ∙ rw (text-digit k d (omega arith) first)

-- pairs of digits as they are written

-- by whether a hex digit is a decimal digit or a letter
by-digit : (P : ℕ → Type 0) (n : ℕ) → (n < 10 → P (48 + n)) → (10 ≤ n → P (55 + n)) → P (digit n)
unfolding digit
by-digit P n f g = by-test (ltb n 10) (λ e. rw e (f (ltb-true n 10 e))) (λ e. rw e (g (ltb-false n 10 e)))

digit-hex : (n : ℕ) → n < 16 → is_hex (digit n) ≡ true
digit-hex n h =
    by-digit (λ (d : ℕ). is_hex d ≡ true) n
    (λ l. rw (le-leb 48 (48 + n) (omega arith), le-leb (48 + n) 57 (omega arith)))
    (λ l. rw (le-leb 48 (55 + n) (omega arith), lt-leb (55 + n) 57 (omega arith), le-leb 65 (55 + n) (omega arith), le-leb (55 + n) 70 (omega arith)))

nibble-digit : (n : ℕ) → n < 16 → nibble (digit n) ≡ n
unfolding nibble
nibble-digit n h =
    by-digit (λ (d : ℕ). nibble d ≡ n) n
    (λ l. rw (lt-ltb (48 + n) 65 (omega arith)) (omega arith)) (λ l. rw (le-ltb (55 + n) 65 (omega arith)) (omega arith))

pub text-hex : (bs : List ℕ) → ((i : ℕ) → get_or bs i 0 < 256) → all_hex (hex_text bs) ≡ true
unfolding hex_text all_hex
text-hex [] h = refl
text-hex (b ∷ bs) h =
    let byte = h 0 in
    rw (digit-hex (b / 16) (omega arith), digit-hex (b % 16) (omega arith)) (text-hex bs (λ i. h (suc i)))

pairs-read : (bs : List ℕ) → ((i : ℕ) → get_or bs i 0 < 256) → pairs_of (hex_text bs) ≡ bs
unfolding hex_text pairs_of
pairs-read [] h = refl
pairs-read (b ∷ bs) h =
    let byte = h 0 in
    let same : b / 16 * 16 + b % 16 ≡ b = omega arith in
    rw (nibble-digit (b / 16) (omega arith), nibble-digit (b % 16) (omega arith), same, pairs-read bs (λ i. h (suc i)))

pairs-right : (most : ℕ) (bs : List ℕ) → length bs ≤ most → ((i : ℕ) → get_or bs i 0 < 256) → is_pairs most (hex_text bs) ≡ true
pairs-right most bs few h =
    rw (length-hex-text bs, eq-eqb (length bs * 2 % 2) 0 (omega arith), le-leb (length bs * 2 / 2) most (omega arith)) (text-hex bs h)

pub hex-plain : (ds : List ℕ) → all_hex ds ≡ true → Plain ds
unfolding all_hex Plain
hex-plain [] e = tt
hex-plain (d ∷ ds) e =
    let (first, later) = both (is_hex d) (all_hex ds) e in
    (digit-plain d (ranges d first).low, hex-plain ds later)

-- pairs of digits that were read, written again

digit-again : (d : ℕ) → is_hex d ≡ true → digit (nibble d) ≡ d
unfolding nibble digit
digit-again d e =
    let r = ranges d e in
    let low = r.low in
    let high = r.high in
    by-test (ltb d 65) (λ p. let between = r.between (ltb-true d 65 p) in rw (p, lt-ltb (d - 48) 10 (omega arith)) (omega arith))
    (λ p. let letter = ltb-false d 65 p in rw (p, le-ltb (d - 55) 10 (omega arith)) (omega arith))

module _ (a b : ℕ) (ds : List ℕ) (e : all_hex (a ∷ b ∷ ds) ≡ true) where
  first-pair : (is_hex a ≡ true) × (is_hex b ≡ true) × (all_hex ds ≡ true)
  unfolding all_hex
  first-pair =
      let (first, later) = both (is_hex a) (is_hex b && all_hex ds) e in
      let (second, rest) = both (is_hex b) (all_hex ds) later in
      (first, second, rest)

pairs-again : (ds : List ℕ) → length ds % 2 ≡ 0 → all_hex ds ≡ true → hex_text (pairs_of ds) ≡ ds
unfolding hex_text pairs_of
pairs-again [] even e = refl
pairs-again (a ∷ []) even e = absurd (omega arith)
pairs-again (a ∷ b ∷ ds) even e =
    let (p, q, rest) = first-pair a b ds e in
    let small = nibble-small b q in
    let high : (nibble a * 16 + nibble b) / 16 ≡ nibble a = omega arith in
    let low : (nibble a * 16 + nibble b) % 16 ≡ nibble b = omega arith in
    rw (high, low, digit-again a p, digit-again b q, pairs-again ds (omega arith) rest)

pairs-bytes : (ds : List ℕ) → all_hex ds ≡ true → (i : ℕ) → get_or (pairs_of ds) i 0 < 256
unfolding pairs_of
pairs-bytes [] e i = omega arith
pairs-bytes (a ∷ []) e i = omega arith
pairs-bytes (a ∷ b ∷ ds) e zero =
    let (p, q, rest) = first-pair a b ds e in
    omega (arith, nibble-small a p, nibble-small b q)
pairs-bytes (a ∷ b ∷ ds) e (suc i) = pairs-bytes ds (first-pair a b ds e).2 i

-- the lines

module _ (most n : ℕ) (name : List ℕ) (small : n ≤ most) (top : n < 100000) where
  pub decimal-line-right : is_decimal_line most name (decimal_line name n) ≡ true
  unfolding is_decimal_line decimal_line
  decimal-line-right = rw (starts-written name (decimal_text n), drop-append_seam name (decimal_text n)) (decimal-right most n small top)

  pub decimal-line-read : decimal_in most name (decimal_line name n) ≡ n
  unfolding decimal_in decimal_line
  decimal-line-read = rw (drop-append_seam name (decimal_text n), decimal-right most n small top) (text-read 5 n top)

pub decimal-line-plain : (name : List ℕ) (n : ℕ) → Plain name → Plain (decimal_line name n)
unfolding decimal_line
decimal-line-plain name n plain = plain-append name (decimal_text n) plain (digits-plain (decimal_text n) (text-digits 5 n))

-- a well-formed line's number is within the limit, and the line is as it would be written
pub record Numbered (most : ℕ) (name l : List ℕ) : Type 0 where
  pub range : decimal_in most name l ≤ most
  pub text : l ≡ decimal_line name (decimal_in most name l)

pub decimal-line-again : (most : ℕ) (name l : List ℕ) → most < 100000 → is_decimal_line most name l ≡ true → Numbered most name l
unfolding is_decimal_line decimal_line decimal_in
decimal-line-again most name l top e =
    let v = value_text name l in
    let (first, right) = both (starts_with name l) (is_decimal most v) e in
    record {
      range = rw right (decimal-digits most v right).small;
      text = rw (right, decimal-again most v top right) (starts-split name l first);
    }

module _ (most : ℕ) (name bs : List ℕ) (few : length bs ≤ most) (bytes : (i : ℕ) → get_or bs i 0 < 256) where
  pub pairs-line-right : is_pairs_line most name (pairs_line name bs) ≡ true
  unfolding is_pairs_line pairs_line
  pairs-line-right = rw (starts-written name (hex_text bs), drop-append_seam name (hex_text bs)) (pairs-right most bs few bytes)

  pub pairs-line-read : pairs_in most name (pairs_line name bs) ≡ bs
  unfolding pairs_in pairs_line
  pairs-line-read = rw (pairs-line-right, drop-append_seam name (hex_text bs)) (pairs-read bs bytes)

pub pairs-line-plain : (name bs : List ℕ) → Plain name → ((i : ℕ) → get_or bs i 0 < 256) → Plain (pairs_line name bs)
unfolding pairs_line
pairs-line-plain name bs plain bytes = plain-append name (hex_text bs) plain (hex-plain (hex_text bs) (text-hex bs bytes))

-- a well-formed line's bytes are bytes, at most so many, and the line is as it would be written
pub record Paired (most : ℕ) (name l : List ℕ) : Type 0 where
  pub few : length (pairs_in most name l) ≤ most
  pub bytes : (i : ℕ) → get_or (pairs_in most name l) i 0 < 256
  pub text : l ≡ pairs_line name (pairs_in most name l)

pub pairs-line-again : (most : ℕ) (name l : List ℕ) → is_pairs_line most name l ≡ true → Paired most name l
unfolding is_pairs_line pairs_line pairs_in
pairs-line-again most name l e =
    let v = value_text name l in
    let (first, right) = both (starts_with name l) (is_pairs most v) e in
    let p = even-pairs most v right in
    record {
      few = rw e (omega (arith, length_pairs v, p.few));
      bytes = rw e (pairs-bytes v p.hex);
      text = rw (e, pairs-again v p.even p.hex) (starts-split name l first);
    }
