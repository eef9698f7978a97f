-- The sheet of the bench program (01, "The bench program"): the rule of each of its five lines, the first line that breaks its rule, and what the lines say.
-- Assumes nothing.
use Rattle.std.specs.Prelude.{ℕ, Bool, ◌||◌, List, [], ◌∷◌, ◌++◌, get_or}
use Rattle.fox_text.specs.Ascii.{ascii, same}
use Rattle.fox_text.specs.Names.{cipher_name, rounds_name}
use Rattle.fox_text.specs.Lines.{lines}
use Rattle.fox_text.specs.Rules.{Test, broken_from}
use Rattle.fox_text.specs.Fields.{is_decimal_line, is_pairs_line, decimal_in, pairs_in}

unfoldable pub key_name : List ℕ
key_name = ascii "key="

unfoldable pub seal_way : List ℕ
seal_way = ascii "way=seal"

unfoldable pub open_way : List ℕ
open_way = ascii "way=open"

unfoldable pub block_name : List ℕ
block_name = ascii "block="

unfoldable pub is_way_line : Test
is_way_line l = same seal_way l || same open_way l

-- the tests of the lines `cipher=`, `rounds=` and `key=`
unfoldable pub setting_tests : List Test
setting_tests = is_decimal_line 65535 cipher_name ∷ is_decimal_line 65535 rounds_name ∷ is_pairs_line 64 key_name ∷ []

-- the tests of the lines `way=` and `block=`
unfoldable pub task_tests : List Test
task_tests = is_way_line ∷ is_pairs_line 32 block_name ∷ []

-- the number of the first line that breaks a rule or is missing, 6 for text after the fifth, and 0 for a well-formed sheet
unfoldable pub broken_line : List ℕ → ℕ
broken_line t = broken_from 1 (setting_tests ++ task_tests) t

-- what a sheet says; `sealing` is whether its fourth line is `way=seal`
pub record Values : Type 0 where
  pub cipher : ℕ
  pub rounds : ℕ
  pub key : List ℕ
  pub sealing : Bool
  pub block : List ℕ

unfoldable pub said : List (List ℕ) → Values
said ls =
    record {
      cipher = decimal_in 65535 cipher_name (get_or ls 0 []);
      rounds = decimal_in 65535 rounds_name (get_or ls 1 []);
      key = pairs_in 64 key_name (get_or ls 2 []);
      sealing = same seal_way (get_or ls 3 []);
      block = pairs_in 32 block_name (get_or ls 4 []);
    }

unfoldable pub values_of : List ℕ → Values
values_of t = said (lines 5 t)
