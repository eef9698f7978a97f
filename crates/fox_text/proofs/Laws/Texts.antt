-- Lines of a name and a value with their line feeds, as a text begins with them: such a line is what `decimal_line` or `pairs_line` gives, and a line feed. It
-- has no other line feed if its name has none, so the text's first line is this line, and what follows it is the rest of the text.
-- Assumes nothing.
use mathlib.Core.Path.{◌≡◌, sym, ap, ◌∙◌}
use mathlib.Core.Bool.{true}
use mathlib.Core.List.{List, [], ◌∷◌, ◌++◌}
use Prim.Native.Nat.{ℕ, suc, ◌+◌, ◌*◌, ◌≤◌, ◌<◌}
use native.Mathlib.Omega.{arith}
use lib.ListN.{length, get_or, length-append}
use lib.Seq.{append_snoc}
use Rattle.fox_text.specs.Decimal.{decimal_text}
use Rattle.fox_text.specs.Hex.{hex_text}
use Rattle.fox_text.specs.Lines.{line_end, line, after_line}
use Rattle.fox_text.specs.Rules.{is_line}
use Rattle.fox_text.specs.Fields.{is_decimal_line, is_pairs_line, decimal_in, pairs_in, decimal_line, pairs_line, decimal_line_text, pairs_line_text}
use Rattle.fox_text.proofs.Laws.Pairs.{length-hex-text}
use Rattle.fox_text.proofs.Laws.Written.{Plain, line_end-written, is_line-written, line-written, after_line-written}
use Rattle.fox_text.proofs.Laws.Values.{decimal-line-right, decimal-line-read, decimal-line-plain, pairs-line-right, pairs-line-read, pairs-line-plain}

-- a text that begins with such a line: the line, a line feed, and the rest

pub decimal-text : (name : List ℕ) (n : ℕ) (r : List ℕ) → decimal_line_text name n ++ r ≡ decimal_line name n ++ 10 ∷ r
unfolding decimal_line_text decimal_line
decimal-text name n r = append_snoc (name ++ decimal_text n) 10 r

pub pairs-text : (name bs r : List ℕ) → pairs_line_text name bs ++ r ≡ pairs_line name bs ++ 10 ∷ r
unfolding pairs_line_text pairs_line
pairs-text name bs r = append_snoc (name ++ hex_text bs) 10 r

-- how long they are

pub length-decimal-text : (name : List ℕ) (n : ℕ) → length (decimal_line_text name n) ≡ suc (length (decimal_line name n))
unfolding decimal_line_text decimal_line
length-decimal-text name n = omega (arith, length-append (name ++ decimal_text n) (10 ∷ []))

pub length-pairs-text : (name bs : List ℕ) → length (pairs_line_text name bs) ≡ length name + suc (2 * length bs)
unfolding pairs_line_text
length-pairs-text name bs =
    omega (arith, length-append (name ++ hex_text bs) (10 ∷ []), length-append name (hex_text bs), length-hex-text bs)

-- as they are read

module _ (name : List ℕ) (n : ℕ) (r : List ℕ) (plain : Plain name) where
  pub end-decimal-text : suc (line_end (decimal_line_text name n ++ r)) ≡ length (decimal_line_text name n)
  end-decimal-text =
      rw (decimal-text name n r, line_end-written (decimal_line name n) r (decimal-line-plain name n plain)) (sym (length-decimal-text name n))

  pub line-decimal-text : line (decimal_line_text name n ++ r) ≡ decimal_line name n
  line-decimal-text = rw (decimal-text name n r) (line-written (decimal_line name n) r (decimal-line-plain name n plain))

  pub after-decimal-text : after_line (decimal_line_text name n ++ r) ≡ r
  after-decimal-text = rw (decimal-text name n r) (after_line-written (decimal_line name n) r (decimal-line-plain name n plain))

  module _ (most : ℕ) (small : n ≤ most) (top : n < 100000) where
    pub right-decimal-text : is_line (is_decimal_line most name) (decimal_line_text name n ++ r) ≡ true
    right-decimal-text =
        rw (decimal-text name n r)
        (is_line-written (decimal_line name n) r (decimal-line-plain name n plain) (is_decimal_line most name) (decimal-line-right most n name small top))

    pub read-decimal-text : decimal_in most name (line (decimal_line_text name n ++ r)) ≡ n
    read-decimal-text = ap (decimal_in most name) line-decimal-text ∙ decimal-line-read most n name small top

module _ (name bs r : List ℕ) (plain : Plain name) (bytes : (i : ℕ) → get_or bs i 0 < 256) where
  pub line-pairs-text : line (pairs_line_text name bs ++ r) ≡ pairs_line name bs
  line-pairs-text = rw (pairs-text name bs r) (line-written (pairs_line name bs) r (pairs-line-plain name bs plain bytes))

  pub after-pairs-text : after_line (pairs_line_text name bs ++ r) ≡ r
  after-pairs-text = rw (pairs-text name bs r) (after_line-written (pairs_line name bs) r (pairs-line-plain name bs plain bytes))

  module _ (most : ℕ) (few : length bs ≤ most) where
    pub right-pairs-text : is_line (is_pairs_line most name) (pairs_line_text name bs ++ r) ≡ true
    right-pairs-text =
        rw (pairs-text name bs r)
        (is_line-written (pairs_line name bs) r (pairs-line-plain name bs plain bytes) (is_pairs_line most name) (pairs-line-right most name bs few bytes))

    pub read-pairs-text : pairs_in most name (line (pairs_line_text name bs ++ r)) ≡ bs
    read-pairs-text = ap (pairs_in most name) line-pairs-text ∙ pairs-line-read most name bs few bytes
