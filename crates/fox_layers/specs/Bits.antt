-- One bit of each number of a list, as one word.
-- Assumes nothing.
use Rattle.std.specs.Prelude.{ℕ, ◌%◌, List, map}
use Rattle.fox_layers.specs.Words.{joined}

-- the lowest bit of f at each number of a list, each as the lowest bit of a byte of its own
unfoldable pub spread : (ℕ → ℕ) → List ℕ → ℕ
spread f xs = joined (map (λ (x : ℕ). f x % 2) xs)
