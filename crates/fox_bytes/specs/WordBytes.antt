-- Words as the bytes of one after the other.
-- Assumes nothing.
use Rattle.std.specs.Prelude.{ℕ, List, [], ◌∷◌, ◌++◌}
use Rattle.fox_layers.specs.Words.{split}

-- words of n bytes each: the bytes of the first, then those of the second, and so on
unfoldable pub word_bytes : ℕ → List ℕ → List ℕ
word_bytes n [] = []
word_bytes n (w ∷ ws) = split n w ++ word_bytes n ws
