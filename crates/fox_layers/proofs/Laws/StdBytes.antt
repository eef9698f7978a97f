-- std's bytes of a word and its number of bytes, the highest first, are the definition's.
-- Assumes nothing.
use Rattle.std.proofs.Common.{◌≡◌, sym, ℕ, List, [], ◌∷◌, length, arith}
use Rattle.std.specs.Int.{w32, w64, to_be_bytes, from_be_bytes}
use Rattle.fox_layers.specs.Words.{joined, split}
use Rattle.fox_layers.proofs.Laws.Words.{split-4, split-8}

pub be-split-4 : (w : ℕ) → to_be_bytes w32 w ≡ split 4 w
be-split-4 w = sym (split-4 w)

pub be-split-8 : (w : ℕ) → to_be_bytes w64 w ≡ split 8 w
be-split-8 w = sym (split-8 w)

pub be-joined-4 : (xs : List ℕ) → length xs ≡ 4 → from_be_bytes w32 xs ≡ joined xs
unfolding joined
be-joined-4 [] e = absurd (omega arith)
be-joined-4 (a ∷ []) e = absurd (omega arith)
be-joined-4 (a ∷ b ∷ []) e = absurd (omega arith)
be-joined-4 (a ∷ b ∷ c ∷ []) e = absurd (omega arith)
be-joined-4 (a ∷ b ∷ c ∷ d ∷ []) e = omega arith
be-joined-4 (a ∷ b ∷ c ∷ d ∷ x ∷ xs) e = absurd (omega arith)

pub be-joined-8 : (xs : List ℕ) → length xs ≡ 8 → from_be_bytes w64 xs ≡ joined xs
unfolding joined
be-joined-8 [] e = absurd (omega arith)
be-joined-8 (a ∷ []) e = absurd (omega arith)
be-joined-8 (a ∷ b ∷ []) e = absurd (omega arith)
be-joined-8 (a ∷ b ∷ c ∷ []) e = absurd (omega arith)
be-joined-8 (a ∷ b ∷ c ∷ d ∷ []) e = absurd (omega arith)
be-joined-8 (a ∷ b ∷ c ∷ d ∷ f ∷ []) e = absurd (omega arith)
be-joined-8 (a ∷ b ∷ c ∷ d ∷ f ∷ g ∷ []) e = absurd (omega arith)
be-joined-8 (a ∷ b ∷ c ∷ d ∷ f ∷ g ∷ h ∷ []) e = absurd (omega arith)
be-joined-8 (a ∷ b ∷ c ∷ d ∷ f ∷ g ∷ h ∷ i ∷ []) e = omega arith
be-joined-8 (a ∷ b ∷ c ∷ d ∷ f ∷ g ∷ h ∷ i ∷ x ∷ xs) e = absurd (omega arith)
