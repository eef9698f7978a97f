-- What the server engine's steps on one block need.
-- Assumes nothing.
use Rattle.std.specs.Prelude.{◌≡◌, List, ℕ, ◌≤◌, length}

-- of rounds, of a block of B bytes, and of the output
pub record Ready (B rounds : ℕ) (block out : List ℕ) : Type 0 where
  pub some : 1 ≤ rounds
  pub few : rounds ≤ 255
  pub size : length block ≡ B
  pub room : length out ≡ B
