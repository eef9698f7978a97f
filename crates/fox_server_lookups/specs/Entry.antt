-- One entry of tables that follow one another.
-- Assumes nothing.
use Rattle.std.specs.Prelude.{ℕ, ◌+◌, ◌*◌, List, get_or}

-- the entry of table number j of t at byte x
abbrev pub entry : List ℕ → ℕ → ℕ → ℕ
entry t j x = get_or t (j * 256 + x) 0
