-- What a call on a tag answers, from what its code does: the tag's state written or compared, and a test that was refused before it.
-- Assumes nothing.
use mathlib.Core.Path.{◌≡◌, sym, ap, ◌∙◌}
use mathlib.Core.Bool.{Bool, false, cond, not}
use mathlib.Core.List.{List}
use Prim.Native.Nat.{ℕ}
use lib.ListN.{length}
use borrow.Author.Tests.{ne_eqb}
use Rattle.fox_rounds.specs.Skeleton.{size}
use Rattle.fox_rounds.specs.declared.state.State.{State}
use Rattle.fox_refusals.specs.Refusals.{refusal_of, or_else, block_size, same, for_tag, Tagged}
use Rattle.fox_refusals.specs.Answer.{Answer}
use Rattle.fox_refusals.proofs.Laws.Refusals.{tag-tested, tag-verdict}
use Rattle.fox_block.specs.Block.{state, bytes, BlockOf}
use Rattle.fox_block.proofs.Laws.Block.{state-size}
use Rattle.fox_block.proofs.Laws.States.{bytes-state}
use Rattle.fox_tag.specs.Cmac.{cmac}
use Rattle.fox_tag.specs.Tag.{tag_with}
use Rattle.fox_tag.specs.Promise.{TestsTagWith, Compared}
use Rattle.fox_tag.proofs.Laws.States.{zero-block, chained-block}

tag-block : (c : ℕ) (rks message : List ℕ) → BlockOf c (tag_with c rks message)
unfolding tag_with cmac
tag-block c rks message = chained-block c rks _ _ (zero-block c)

module _ (c : ℕ) (rks message : List ℕ) {y : State} (is : y ≡ state c (tag_with c rks message)) where
  pub tag-bytes : bytes y ≡ tag_with c rks message
  tag-bytes = ap bytes is ∙ bytes-state c (tag_with c rks message) (tag-block c rks message)

  pub tag-size : size y ≡ block_size c
  tag-size = ap size is ∙ state-size c (tag_with c rks message)

module _ (c rounds key_len : ℕ) (rks message stored : List ℕ) {r : Answer} where
  -- a test that is refused before any tag is compared
  pub test-refused : {n : ℕ} → n ≡ refusal_of (for_tag false c rounds key_len (length message) (length stored)) → (n ≡ 0 → ⊥)
      → (r.refusal ≡ n) × (r.count ≡ 0) → TestsTagWith c rounds key_len rks message stored r
  unfolding or_else
  test-refused {n} e isnt refused =
      let right = tag_with c rks message in
      record {
        refusal = refused.0
            ∙ sym (ap (λ (t : Bool). cond t (cond (not (same right stored)) 10 0) n) (ne_eqb n 0 isnt))
            ∙ ap (λ (m : ℕ). or_else m (not (same right stored)) 10) e
            ∙ tag-tested c rounds key_len (length message) right stored;
        count = refused.1;
      }

  -- a test that compares
  pub test_compared : {right : List ℕ} → Tagged c rounds key_len (length message) (length stored) → right ≡ tag_with c rks message
      → Compared right stored r → TestsTagWith c rounds key_len rks message stored r
  test_compared h is call =
      record {
        refusal = call.refusal
            ∙ ap (λ (l : List ℕ). cond (same l stored) 0 10) is
            ∙ sym (tag-verdict (tag_with c rks message) stored h);
        count = call.count;
      }
