-- What reading a sheet gives, in two steps: the settings, which are its first three lines, and the task, which is the rest.
-- Assumes nothing.
use Rattle.std.specs.Prelude.{◌≡◌, ℕ, List, Bool, cond, length, eqb, Option, Some, None, Result, Ok, Err}
use Rattle.fox_text.specs.Ascii.{same}
use Rattle.fox_text.specs.Lines.{line, after_lines}
use Rattle.fox_text.specs.Rules.{is_line, broken_in, broken_from}
use Rattle.fox_text.specs.Fields.{pairs_in}
use Rattle.fox_text.specs.Put.{Stored}
use Rattle.fox_sheet.specs.Sheet.{seal_way, block_name, is_way_line, setting_tests, task_tests, Values, values_of}
use Rattle.fox_sheet.specs.declared.sheet.Settings.{Settings}
use Rattle.fox_sheet.specs.declared.sheet.Task.{Task}

-- what was read, or the number of the first line that is malformed
abbrev pub read_or : {A : Type 0} → ℕ → A → Result A ℕ
read_or broken value = cond (eqb broken 0) (Ok value) (Err broken)

unfoldable pub settings_of : Values → Settings
settings_of v = record { cipher = v.cipher; rounds = v.rounds; size = length v.key }

-- the three lines, and the key at the start of its buffer, whether or not a line is malformed
pub record ReadsSettings (t before after : List ℕ) (r : Result Settings ℕ) : Type 0 where
  pub answer : r ≡ read_or (broken_in 1 setting_tests t) (settings_of (values_of t))
  pub key : Stored 64 (values_of t).key before after (length (values_of t).key)

-- whether the way is to seal, where a text begins with a line that is one
abbrev pub ReadsWay : List ℕ → Option Bool → Type 0
ReadsWay t r = r ≡ cond (is_line is_way_line t) (Some (same seal_way (line t))) None

-- the block's bytes, where t is what follows the first three lines
abbrev pub block_of : List ℕ → List ℕ
block_of t = pairs_in 32 block_name (line (after_lines 1 t))

unfoldable pub task_of : List ℕ → Task
task_of t = record { sealing = same seal_way (line t); size = length (block_of t) }

-- the same of the task; text after the last line counts as one line more
pub record ReadsTask (t before after : List ℕ) (r : Result Task ℕ) : Type 0 where
  pub answer : r ≡ read_or (broken_from 4 task_tests t) (task_of t)
  pub block : Stored 32 (block_of t) before after (length (block_of t))
