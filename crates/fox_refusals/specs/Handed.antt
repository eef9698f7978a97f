-- The whole answer of a call over the C interface, which returns the refusal number alone: the count follows from it.
-- Assumes nothing.
use Rattle.std.specs.Prelude.{◌≡◌, ℕ, cond, List, ◌==◌}
use Rattle.fox_refusals.specs.Refusals.{Refusal, refusal_of}
use Rattle.fox_refusals.specs.Answer.{Answer}

pub record Handed (refusals : List Refusal) (value before after : List ℕ) (r : ℕ) : Type 0 where
  pub refusal : r ≡ refusal_of refusals
  pub output : after ≡ cond (refusal_of refusals == 0) value before

-- the answer of a call that returned the number r and had an output of n bytes
unfoldable pub answer : ℕ → ℕ → Answer
answer r n = record { refusal = r; count = cond (r == 0) n 0 }
