-- An array of tables while it is filled, table by table.
-- Assumes nothing.
use Rattle.std.specs.Prelude.{◌≡◌, List, ℕ, ◌*◌, length, take}

-- an array t in which the first j tables are already those of the whole
pub record FilledTo {A : Type 0} (whole : List A) (j : ℕ) (t : List A) : Type 0 where
  pub long : length t ≡ length whole
  pub same : take (j * 256) t ≡ take (j * 256) whole
