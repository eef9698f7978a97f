-- The values of a function in a row, as a list.
-- Assumes nothing.
use Rattle.std.specs.Prelude.{ℕ, zero, suc, List, [], ◌∷◌}

-- the values of f at the n numbers from i on
unfoldable pub numbered : {A : Type 0} → (ℕ → A) → ℕ → ℕ → List A
numbered f zero i = []
numbered f (suc n) i = f i ∷ numbered f n (suc i)
