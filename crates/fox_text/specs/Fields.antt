-- A line that is a name, with its `=`, and a value: whether it is well-formed, what it says, and how it is written. Lines are without their line feed here.
-- Assumes nothing.
use Rattle.std.specs.Prelude.{◌≡◌, ℕ, ◌+◌, ◌*◌, cond, ◌&&◌, List, [], ◌∷◌, ◌++◌, length, drop, Option, Some, None}
use Rattle.fox_text.specs.Ascii.{starts_with}
use Rattle.fox_text.specs.Lines.{line}
use Rattle.fox_text.specs.Rules.{Test, is_line}
use Rattle.fox_text.specs.Decimal.{is_decimal, decimal_of, decimal_text}
use Rattle.fox_text.specs.Hex.{is_pairs, pairs_of, hex_text}
use Rattle.fox_text.specs.Put.{Put, Stored}

-- the value's text, after the name
abbrev pub value_text : List ℕ → List ℕ → List ℕ
value_text name l = drop (length name) l

-- whether a line is a name and a decimal up to a limit; a name and pairs of hex digits, at most so many
unfoldable pub is_decimal_line : ℕ → List ℕ → Test
is_decimal_line most name l = starts_with name l && is_decimal most (value_text name l)

unfoldable pub is_pairs_line : ℕ → List ℕ → Test
is_pairs_line most name l = starts_with name l && is_pairs most (value_text name l)

-- the number after the name, or 0 where there is none
unfoldable pub decimal_in : ℕ → List ℕ → List ℕ → ℕ
decimal_in most name l = cond (is_decimal most (value_text name l)) (decimal_of (value_text name l)) 0

-- the bytes of a well-formed line, and none of another
unfoldable pub pairs_in : ℕ → List ℕ → List ℕ → List ℕ
pairs_in most name l = cond (is_pairs_line most name l) (pairs_of (value_text name l)) []

-- how many bytes they are
abbrev pub count_in : ℕ → List ℕ → List ℕ → ℕ
count_in most name l = length (pairs_in most name l)

-- what reading a text's first line returns: its number, where the line is ended and well-formed
pub record ReadsDecimal (most : ℕ) (name t : List ℕ) (r : Option ℕ) : Type 0 where
  pub number : r ≡ cond (is_line (is_decimal_line most name) t) (Some (decimal_in most name (line t))) None

-- the same of a line of pairs: how many bytes they are. The bytes of a well-formed line are written at the start of the output, whether or not it is ended
pub record ReadsPairs (most : ℕ) (name t before after : List ℕ) (r : Option ℕ) : Type 0 where
  pub number : r ≡ cond (is_line (is_pairs_line most name) t) (Some (count_in most name (line t))) None
  pub stored : Stored most (pairs_in most name (line t)) before after (count_in most name (line t))

-- the same, whether or not the line is ended
pub record TakesPairs (most : ℕ) (name l before after : List ℕ) (r : Option ℕ) : Type 0 where
  pub number : r ≡ cond (is_pairs_line most name l) (Some (count_in most name l)) None
  pub stored : Stored most (pairs_in most name l) before after (count_in most name l)

-- such lines as they are written, without and with their line feed
unfoldable pub decimal_line : List ℕ → ℕ → List ℕ
decimal_line name n = name ++ decimal_text n

unfoldable pub pairs_line : List ℕ → List ℕ → List ℕ
pairs_line name bytes = name ++ hex_text bytes

unfoldable pub decimal_line_text : List ℕ → ℕ → List ℕ
decimal_line_text name n = name ++ decimal_text n ++ (10 ∷ [])

unfoldable pub pairs_line_text : List ℕ → List ℕ → List ℕ
pairs_line_text name bytes = name ++ hex_text bytes ++ (10 ∷ [])

-- a line and its line feed written from a place on; a decimal has at most five digits
abbrev pub PutsDecimal : List ℕ → ℕ → List ℕ → List ℕ → ℕ → ℕ → Type 0
PutsDecimal name n before after at r = Put (length name + 6) (decimal_line_text name n) before after at r

abbrev pub PutsPairs : List ℕ → List ℕ → List ℕ → List ℕ → ℕ → ℕ → Type 0
PutsPairs name bytes before after at r = Put (length name + length bytes * 2 + 1) (pairs_line_text name bytes) before after at r
