-- A run cut into stretches, each of them the input of some call.
-- Assumes nothing.
use Rattle.std.specs.Prelude.{◌≡◌, List, [], ◌∷◌, ◌++◌, ℕ, ◌+◌, ◌≤◌, length}
use Rattle.fox_refusals.specs.Answer.{Answer}

-- a call on a stretch: offset, input, the output before and after, and the answer
abbrev pub Call : Type 1
Call = ℕ → List ℕ → List ℕ → List ℕ → Answer → Type 0

-- a run from byte n on, cut into stretches, each given to a call that answered 0: the inputs joined, and the outputs joined
pub data CallsOf (call : Call) : ℕ → List ℕ → List ℕ → Type 0 where
  none : {n : ℕ} → CallsOf call n [] []
  next : {n : ℕ} (ds : List ℕ) {before after inputs outputs : List ℕ} {r : Answer} → call n ds before after r → r.refusal ≡ 0
      → CallsOf call (n + length ds) inputs outputs → CallsOf call n (ds ++ inputs) (after ++ outputs)

-- a run from byte n on, cut into stretches of at most 65,536 bytes, each given to a call with an output of its length: the inputs joined, and the outputs
-- joined
pub data CutOf (call : Call) : ℕ → List ℕ → List ℕ → Type 0 where
  none : {n : ℕ} → CutOf call n [] []
  next : {n : ℕ} (ds : List ℕ) {before after inputs outputs : List ℕ} {r : Answer} → length ds ≤ 65536 → length before ≡ length ds
      → call n ds before after r → CutOf call (n + length ds) inputs outputs → CutOf call n (ds ++ inputs) (after ++ outputs)

-- the pieces of a run from byte n on, each opened alone from its own place
unfoldable pub each_alone : (ℕ → List ℕ → List ℕ) → ℕ → List (List ℕ) → List (List ℕ)
each_alone opened n [] = []
each_alone opened n (p ∷ ps) = opened n p ∷ each_alone opened (n + length p) ps
