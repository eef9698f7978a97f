-- A text whose lines are to pass tests, one test each: the number of the first line that does not.
-- Assumes nothing.
use Rattle.std.specs.Prelude.{ℕ, suc, Bool, cond, ◌&&◌, List, [], ◌∷◌}
use Rattle.fox_text.specs.Ascii.{empty}
use Rattle.fox_text.specs.Lines.{has_line, line, after_line}

-- a test of a line without its line feed
abbrev pub Test : Type 0
Test = List ℕ → Bool

-- whether a text begins with a line that is ended and passes a test
unfoldable pub is_line : Test → List ℕ → Bool
is_line test t = has_line t && test (line t)

-- the number of the first line that is missing or does not pass its test, where the first of them has number n; 0 where all pass, whatever follows
unfoldable pub broken_in : ℕ → List Test → List ℕ → ℕ
broken_in n [] t = 0
broken_in n (test ∷ tests) t = cond (is_line test t) (broken_in (suc n) tests (after_line t)) n

-- the same of a text that is to end with the last of these lines: text after it counts as one line more
unfoldable pub broken_from : ℕ → List Test → List ℕ → ℕ
broken_from n [] t = cond (empty t) 0 n
broken_from n (test ∷ tests) t = cond (is_line test t) (broken_from (suc n) tests (after_line t)) n
