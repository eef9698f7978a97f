-- Whether a text's first line passes a test is settled by the text's first bytes, one more of them than a passing line can have: a line that ends among them
-- is whole in them, and one that does not is too long. After a passing line, what is left of these bytes is again the beginning of what is left of the text.
-- So the tests of a text's lines, one after the other, are settled by as many bytes as passing lines can have, and one more, which shows whether text
-- follows.
-- Assumes nothing.
use mathlib.Core.Path.{◌≡◌, refl, sym, ap, ap₂, ◌∙◌}
use mathlib.Core.Bool.{Bool, true, false, cond}
use mathlib.Core.List.{List, [], ◌∷◌}
use Prim.Native.Nat.{ℕ, zero, suc, ◌+◌, ◌-◌, ◌*◌, ◌≤◌, ◌<◌, min}
use native.Mathlib.Nat.{zero-min, min-zero, suc-min-suc, zero-sub, suc-sub-suc, sub-zero}
use native.Mathlib.Omega.{arith}
use lib.ListN.{length, take, drop, length-take, length-drop}
use lib.Seq.{take-take, take-nil}
use lib.Dec.{ltb, eqb, eqb-suc-zero}
use borrow.Author.Tests.{ltb-true, ltb-false, lt-ltb, le-ltb, eqb-true}
use Rattle.fox_text.specs.Ascii.{empty, starts_with, same}
use Rattle.fox_text.specs.Lines.{line_end, has_line, line, after_line, lines}
use Rattle.fox_text.specs.Rules.{Test, is_line, broken_from}
use Rattle.fox_text.specs.Decimal.{is_decimal}
use Rattle.fox_text.specs.Hex.{is_pairs}
use Rattle.fox_text.specs.Fields.{value_text, is_decimal_line, is_pairs_line}
use Rattle.fox_text.proofs.Laws.Tests.{both, by-test}
use Rattle.fox_text.proofs.Laws.Lines.{length-line}
use Rattle.fox_text.proofs.Laws.Decimals.{decimal-length}
use Rattle.fox_text.proofs.Laws.Pairs.{even-pairs}

-- the first line of a text's first bytes

min-end : (b : Bool) (m n : ℕ) → cond b 0 (suc (min m n)) ≡ min (suc m) (cond b 0 (suc n))
min-end true m n = sym (min-zero (suc m))
min-end false m n = sym (suc-min-suc m n)

line_end-take : (m : ℕ) (t : List ℕ) → line_end (take m t) ≡ min m (line_end t)
unfolding line_end
line_end-take zero t = sym (zero-min (line_end t))
line_end-take (suc m) [] = sym (min-zero (suc m))
line_end-take (suc m) (x ∷ xs) = rw (line_end-take m xs) (min-end (eqb x 10) m (line_end xs))

drop-take : (k m : ℕ) (t : List ℕ) → drop k (take m t) ≡ take (m - k) (drop k t)
drop-take zero m t = rw (sub-zero m)
drop-take (suc k) zero t = rw (zero-sub (suc k))
drop-take (suc k) (suc m) [] = sym (take-nil (suc m - suc k))
drop-take (suc k) (suc m) (x ∷ xs) = rw (suc-sub-suc m k) (drop-take k m xs)

-- s is the first bytes of t, at least k of them, or all of t
pub record Prefix (k : ℕ) (s t : List ℕ) : Type 0 where
  pub kept : ℕ
  pub enough : k ≤ kept
  pub is : s ≡ take kept t

empty-take : (n : ℕ) (t : List ℕ) → 1 ≤ n → empty (take n t) ≡ empty t
empty-take zero t h = absurd (omega arith)
empty-take (suc n) [] h = refl
empty-take (suc n) (x ∷ xs) h = rw (eqb-suc-zero (length xs)) (eqb-suc-zero (length (take n xs)))

empty-prefix : {s t : List ℕ} → Prefix 1 s t → empty s ≡ empty t
empty-prefix {t = t} p = rw p.is (empty-take p.kept t p.enough)

ltb-min : (e m n : ℕ) → e < m → ltb e (min m n) ≡ ltb e n
ltb-min e m n h =
    by-test (ltb e n) (λ q. let lt = ltb-true e n q in lt-ltb e (min m n) (omega arith) ∙ sym q)
    (λ q. let le = ltb-false e n q in le-ltb e (min m n) (omega arith) ∙ sym q)

-- m bytes that contain the first line whole have the same first line
module _ (m : ℕ) (t : List ℕ) (held : line_end t < m) where
  line_end-held : line_end (take m t) ≡ line_end t
  line_end-held = line_end-take m t ∙ omega arith

  has_line-held : has_line (take m t) ≡ has_line t
  has_line-held = rw (line_end-held, length-take m t) (ltb-min (line_end t) m (length t) held)

  line-held : line (take m t) ≡ line t
  line-held = rw line_end-held (take-take (line_end t) m t (omega arith))

  after_line-held : after_line (take m t) ≡ take (m - suc (line_end t)) (after_line t)
  unfolding after_line
  after_line-held = rw line_end-held (drop-take (suc (line_end t)) m t)

-- m bytes that end before the first line does have no line
has_line-cut : (m : ℕ) (t : List ℕ) → m ≤ line_end t → has_line (take m t) ≡ false
has_line-cut m t h = rw (line_end-take m t, length-take m t) (le-ltb (min m (line_end t)) (min m (length t)) (omega arith))

-- no line with more than m bytes passes the test
abbrev pub Within : ℕ → Test → Type 0
Within m test = (l : List ℕ) → test l ≡ true → length l ≤ m

module _ {m : ℕ} {test : Test} (within : Within m test) where
  right_end : (t : List ℕ) → is_line test t ≡ true → line_end t ≤ m
  unfolding is_line
  right_end t e = omega (arith, length-line t, within (line t) (both (has_line t) (test (line t)) e).1)

  rule-prefix : {k : ℕ} {s t : List ℕ} → m < k → Prefix k s t → is_line test s ≡ is_line test t
  unfolding is_line
  rule-prefix {t = t} h p =
      let many = p.enough in
      by-test (ltb (line_end t) p.kept)
      (λ e. let held = ltb-true (line_end t) p.kept e in rw (p.is, has_line-held p.kept t held, line-held p.kept t held))
      (λ e.
      let cut = ltb-false (line_end t) p.kept e in
      rw (p.is, has_line-cut p.kept t cut) (by-test (is_line test t) (λ r. let short = right_end t r in absurd (omega arith)) (λ r. sym r)))

  line-prefix : {k : ℕ} {s t : List ℕ} → m < k → Prefix k s t → is_line test t ≡ true → line s ≡ line t
  line-prefix {t = t} h p e = rw p.is (line-held p.kept t (omega (arith, right_end t e, p.enough)))

  after-prefix : {k : ℕ} {s t : List ℕ} → Prefix (suc m + k) s t → is_line test t ≡ true → Prefix k (after_line s) (after_line t)
  after-prefix {t = t} p e =
      let short = right_end t e in
      let many = p.enough in
      record { kept = p.kept - suc (line_end t); enough = omega arith; is = ap after_line p.is ∙ after_line-held p.kept t (omega arith) }

-- how many bytes settle the tests of lines, one after the other
pub data Settled : List Test → ℕ → Type 0 where
  end : Settled [] 1
  next : {m k : ℕ} {test : Test} {tests : List Test} → Within m test → Settled tests k → Settled (test ∷ tests) (suc m + k)

pub broken-prefix : {tests : List Test} {k : ℕ} {s t : List ℕ} (n : ℕ) → Settled tests k → Prefix k s t → broken_from n tests s ≡ broken_from n tests t
unfolding broken_from
broken-prefix n end p = rw (empty-prefix p)
broken-prefix {t = t} n (next {test = test} within later) p =
    let many = p.enough in
    rw (rule-prefix within (omega arith) p)
    (by-test (is_line test t) (λ e. rw e (broken-prefix (suc n) later (after-prefix within p e))) (λ e. rw e))

pub lines-prefix : {tests : List Test} {k : ℕ} {s t : List ℕ} (n : ℕ) → Settled tests k → Prefix k s t → broken_from (suc n) tests t ≡ 0
    → lines (length tests) s ≡ lines (length tests) t
unfolding broken_from lines
lines-prefix n end p right = refl
lines-prefix {t = t} n (next {test = test} within later) p right =
    let many = p.enough in
    by-test (is_line test t)
    (λ e. ap₂ (λ (l : List ℕ) (ls : List (List ℕ)). l ∷ ls) (line-prefix within (omega arith) p e)
    (lines-prefix (suc n) later (after-prefix within p e) (rw e at right)))
    (λ e. let z : suc n ≡ 0 = rw e at right in absurd (omega arith))

-- the bounds of lines of a name and a value

value-within : (m : ℕ) (name l : List ℕ) → length (value_text name l) ≤ m → length l ≤ length name + m
value-within m name l h = omega (arith, length-drop (length name) l)

pub decimal-within : (most : ℕ) (name : List ℕ) → most < 100000 → Within (length name + 5) (is_decimal_line most name)
unfolding is_decimal_line
decimal-within most name top l e =
    value-within 5 name l (decimal-length most (value_text name l) top (both (starts_with name l) (is_decimal most (value_text name l)) e).1)

pub pairs-within : (most : ℕ) (name : List ℕ) → Within (length name + 2 * most) (is_pairs_line most name)
unfolding is_pairs_line
pairs-within most name l e =
    let p = even-pairs most (value_text name l) (both (starts_with name l) (is_pairs most (value_text name l)) e).1 in
    value-within (2 * most) name l (omega (arith, p.even, p.few))

pub same_length : (a l : List ℕ) → same a l ≡ true → length l ≡ length a
same_length a l e = sym (eqb-true (length a) (length l) (both (eqb (length a) (length l)) (starts_with a l) e).0)
