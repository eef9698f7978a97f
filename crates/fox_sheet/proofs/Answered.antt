-- What a call that answers a sheet wrote, by the sheet: where a line is malformed, refusal 8 and the line, before all else; where the sheet is well-formed,
-- the block's refusal alone, or the block. And two calls on one sheet write the same text.
-- Assumes nothing.
use mathlib.Core.Path.{◌≡◌, refl, sym, ◌∙◌}
use mathlib.Core.List.{List}
use Prim.Native.Nat.{ℕ}
use lib.ListN.{length, take}
use borrow.Author.Tests.{ne_eqb}
use Rattle.fox_text.specs.Fields.{decimal_line_text}
use Rattle.fox_sheet.specs.Sheet.{broken_line, values_of}
use Rattle.fox_sheet.specs.Answer.{refusal_name, broken_text, served_text, turned, refusal, answer_of, Answers}
use Rattle.fox_sheet.proofs.Laws.{refused-text, served-text}

module _ (t : List ℕ) {before after : List ℕ} {r : ℕ} (call : Answers t before after r) where
  pub broken-sheet : (broken_line t ≡ 0 → ⊥) → take r after ≡ broken_text (broken_line t)
  unfolding answer_of
  broken-sheet isnt = rw (ne_eqb (broken_line t) 0 isnt) at call.part

  module _ (right : broken_line t ≡ 0) where
    pub refused-block : (refusal (values_of t) ≡ 0 → ⊥) → take r after ≡ decimal_line_text refusal_name (refusal (values_of t))
    unfolding answer_of
    refused-block isnt = (rw right at call.part) ∙ refused-text (values_of t) _ refl isnt

    pub served-block : refusal (values_of t) ≡ 0
        → take r after ≡ served_text (values_of t).cipher (values_of t).rounds (length (values_of t).key) (turned (values_of t))
    unfolding answer_of
    served-block is = (rw right at call.part) ∙ served-text (values_of t) is

pub answers-same : (t : List ℕ) {before₁ before₂ after₁ after₂ : List ℕ} {r₁ r₂ : ℕ} → Answers t before₁ after₁ r₁ → Answers t before₂ after₂ r₂
    → (r₁ ≡ r₂) × (take r₁ after₁ ≡ take r₂ after₂)
answers-same t a b = (a.count ∙ sym b.count, a.part ∙ sym b.part)
