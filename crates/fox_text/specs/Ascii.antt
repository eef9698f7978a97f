-- A text as the list of its bytes, and how texts are compared.
-- Assumes nothing.
use Rattle.std.specs.Prelude.{ℕ, zero, suc, Bool, true, false, ◌&&◌, List, [], ◌∷◌, length, eqb}
use Prim.Native.Char.{code}
use Prim.Native.String.{String, len, char_at}

-- the codes of k characters from place i on
unfoldable pub codes : ℕ → ℕ → String → List ℕ
codes zero i t = []
codes (suc k) i t = code (char_at t i) ∷ codes k (suc i) t

-- the bytes of a text whose characters are one byte each
unfoldable pub ascii : String → List ℕ
ascii t = codes (len t) 0 t

abbrev pub empty : List ℕ → Bool
empty t = eqb (length t) 0

-- whether a text begins with the bytes of a name
unfoldable pub starts_with : List ℕ → List ℕ → Bool
starts_with [] t = true
starts_with (x ∷ xs) [] = false
starts_with (x ∷ xs) (y ∷ ys) = eqb x y && starts_with xs ys

-- whether two texts are equal
abbrev pub same : List ℕ → List ℕ → Bool
same a b = eqb (length a) (length b) && starts_with a b
