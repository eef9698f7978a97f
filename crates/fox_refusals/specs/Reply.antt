-- The whole answer of a call: refusal number, count, and every byte of the output; and how it ends, served or refused.
-- Assumes nothing.
use Rattle.std.specs.Prelude.{◌≡◌, ℕ, cond, List, length, ◌==◌}
use Rattle.fox_refusals.specs.Refusals.{Refusal, refusal_of}
use Rattle.fox_refusals.specs.Answer.{Answer}

-- success is 0 with the output length as count and the value written; a refusal has count 0 and leaves the output as it was
pub record Reply (refusals : List Refusal) (value before after : List ℕ) (r : Answer) : Type 0 where
  pub refusal : r.refusal ≡ refusal_of refusals
  pub count : r.count ≡ cond (refusal_of refusals == 0) (length before) 0
  pub output : after ≡ cond (refusal_of refusals == 0) value before

-- the whole answer of a call that has no output: its refusal number, and count 0 always
pub record Verdict (refusals : List Refusal) (r : Answer) : Type 0 where
  pub refusal : r.refusal ≡ refusal_of refusals
  pub count : r.count ≡ 0

-- a call that is served: refusal 0, a count, and a value as its output
pub record Served (n : ℕ) (value after : List ℕ) (r : Answer) : Type 0 where
  pub refusal : r.refusal ≡ 0
  pub count : r.count ≡ n
  pub output : after ≡ value

-- a call that is refused: the first refusal that applies, count 0, and the output as it was
pub record Refused (refusals : List Refusal) (before after : List ℕ) (r : Answer) : Type 0 where
  pub refusal : r.refusal ≡ refusal_of refusals
  pub count : r.count ≡ 0
  pub output : after ≡ before

-- two calls that answer the same: the same refusal and count; the same output where they are served, or where both outputs were the same before
pub record Same (before₁ before₂ after₁ after₂ : List ℕ) (r₁ r₂ : Answer) : Type 0 where
  pub refusal : r₁.refusal ≡ r₂.refusal
  pub count : r₁.count ≡ r₂.count
  pub served : r₁.refusal ≡ 0 → after₁ ≡ after₂
  pub same_before : before₁ ≡ before₂ → after₁ ≡ after₂
