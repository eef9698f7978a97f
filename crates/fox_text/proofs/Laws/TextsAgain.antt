-- A text that begins with a well-formed line is that line as it would be written, and what comes after it: the line ends at the first line feed, and what it
-- says, written again, is the same line. So two texts that begin with lines of one name are equal only where the lines say the same.
-- Assumes nothing.
use mathlib.Core.Path.{◌≡◌, sym, ap, ◌∙◌}
use mathlib.Core.Bool.{true}
use mathlib.Core.List.{List, ◌∷◌, ◌++◌}
use Prim.Native.Nat.{ℕ, ◌≤◌, ◌<◌}
use native.Mathlib.Omega.{arith}
use lib.ListN.{length, get_or, drop}
use lib.Seq.{drop_at}
use borrow.Author.Tests.{ltb-true}
use Rattle.fox_text.specs.Lines.{line_end, has_line, line, after_line}
use Rattle.fox_text.specs.Rules.{Test, is_line}
use Rattle.fox_text.specs.Fields.{is_decimal_line, is_pairs_line, decimal_in, pairs_in, decimal_line_text, pairs_line_text}
use Rattle.fox_text.proofs.Laws.Tests.{both}
use Rattle.fox_text.proofs.Laws.Written.{Plain, split-line}
use Rattle.fox_text.proofs.Laws.Values.{decimal-line-again, pairs-line-again}
use Rattle.fox_text.proofs.Laws.Texts.{decimal-text, pairs-text, after-decimal-text, read-decimal-text}

-- a text that is one text and then another is the first, and itself from the first's length on
pub from-after : {t : List ℕ} (a r : List ℕ) (n : ℕ) → t ≡ a ++ r → length a ≡ n → t ≡ a ++ drop n t
from-after a r n e size = e ∙ ap (λ (s : List ℕ). a ++ s) (sym (ap (drop n) e ∙ drop_at a r n size))

-- a text's first line passes the test, and the text is this line, its line feed and the rest
passed-line : (test : Test) (t : List ℕ) → is_line test t ≡ true → (test (line t) ≡ true) × (t ≡ line t ++ 10 ∷ after_line t)
unfolding is_line
passed-line test t e =
    let (ended, passed) = both (has_line t) (test (line t)) e in
    (passed, split-line t (ltb-true (line_end t) (length t) ended))

pub record DecimalFirst (most : ℕ) (name t : List ℕ) : Type 0 where
  pub range : decimal_in most name (line t) ≤ most
  pub text : t ≡ decimal_line_text name (decimal_in most name (line t)) ++ after_line t

pub decimal-first : (most : ℕ) (name t : List ℕ) → most < 100000 → is_line (is_decimal_line most name) t ≡ true → DecimalFirst most name t
decimal-first most name t top e =
    let (passed, text) = passed-line (is_decimal_line most name) t e in
    let again = decimal-line-again most name (line t) top passed in
    record { range = again.range; text = text ∙ ap (λ (l : List ℕ). l ++ 10 ∷ after_line t) again.text ∙ sym (decimal-text name _ (after_line t)) }

pub record PairsFirst (most : ℕ) (name t : List ℕ) : Type 0 where
  pub few : length (pairs_in most name (line t)) ≤ most
  pub bytes : (i : ℕ) → get_or (pairs_in most name (line t)) i 0 < 256
  pub text : t ≡ pairs_line_text name (pairs_in most name (line t)) ++ after_line t

pub pairs_first : (most : ℕ) (name t : List ℕ) → is_line (is_pairs_line most name) t ≡ true → PairsFirst most name t
pairs_first most name t e =
    let (passed, text) = passed-line (is_pairs_line most name) t e in
    let again = pairs-line-again most name (line t) passed in
    record {
      few = again.few;
      bytes = again.bytes;
      text = text ∙ ap (λ (l : List ℕ). l ++ 10 ∷ after_line t) again.text ∙ sym (pairs-text name _ (after_line t));
    }

-- two texts that begin with written lines of one name and a number are equal only where their numbers and their rests are
pub decimal-first-one : (name : List ℕ) → Plain name → {m n : ℕ} {r s : List ℕ} → m < 100000 → n < 100000
    → decimal_line_text name m ++ r ≡ decimal_line_text name n ++ s → (m ≡ n) × (r ≡ s)
decimal-first-one name plain {m} {n} {r} {s} p q e = (
  sym (read-decimal-text name m r plain 99999 (omega arith) p)
      ∙ ap (λ (t : List ℕ). decimal_in 99999 name (line t)) e
      ∙ read-decimal-text name n s plain 99999 (omega arith) q,
  sym (after-decimal-text name m r plain) ∙ ap after_line e ∙ after-decimal-text name n s plain,
)
