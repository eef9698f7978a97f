-- A text as lines, each ended by one line feed.
-- Assumes nothing.
use Rattle.std.specs.Prelude.{◌≡◌, ℕ, zero, suc, ◌-◌, ◌≤◌, Bool, cond, List, [], ◌∷◌, ◌++◌, length, take, drop, ltb, eqb}

-- the place of the first line feed, or the text's length where it has none
unfoldable pub line_end : List ℕ → ℕ
line_end [] = 0
line_end (x ∷ xs) = cond (eqb x 10) 0 (suc (line_end xs))

-- whether the text has a first line that is ended
abbrev pub has_line : List ℕ → Bool
has_line t = ltb (line_end t) (length t)

-- the first line, without its line feed
abbrev pub line : List ℕ → List ℕ
line t = take (line_end t) t

-- what follows the first line and its line feed
unfoldable pub after_line : List ℕ → List ℕ
after_line t = drop (suc (line_end t)) t

-- what follows the first n lines
unfoldable pub after_lines : ℕ → List ℕ → List ℕ
after_lines zero t = t
after_lines (suc n) t = after_lines n (after_line t)

-- the first n lines, without their line feeds
unfoldable pub lines : ℕ → List ℕ → List (List ℕ)
lines zero t = []
lines (suc n) t = line t ∷ lines n (after_line t)

-- r is the text after the first line of t: shorter than t, or empty where t is
pub record After (t r : List ℕ) : Type 0 where
  pub is : r ≡ after_line t
  pub shorter : length r ≤ length t - 1

-- lines as a text
unfoldable pub text_of : List (List ℕ) → List ℕ
text_of [] = []
text_of (l ∷ ls) = l ++ 10 ∷ text_of ls

-- r is the place where the first line of t ends, which is within t, and so many bytes of t come before it
pub record Ends (t : List ℕ) (r : ℕ) : Type 0 where
  pub is : r ≡ line_end t
  pub within : r ≤ length t
  pub counts : r ≡ length (take r t)
