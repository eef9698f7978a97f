-- The number of a call that takes up a file: with a key that is not refused, header, rest and tag decide, in this order; and where the number is 0, all of them
-- are right.
-- Assumes nothing.
use mathlib.Core.Path.{◌≡◌, refl, ◌∙◌}
use mathlib.Core.Bool.{Bool, true, false, cond, not}
use mathlib.Core.List.{List, [], ◌∷◌}
use Prim.Native.Nat.{ℕ}
use borrow.Author.Tests.{not-false}
use Rattle.fox_refusals.specs.Refusals.{refusal_of, wrong_cipher, wrong_rounds, long_key, same, other_tag, for_key, Keyed}
use Rattle.fox_refusals.proofs.Laws.Refusals.{Passed, numbered, passed-served, served-passed, keyed, keyed-served, same_known}
use Rattle.fox_tag.specs.Tag.{tag_with}
use Rattle.fox_run_file.specs.Says.{is_header, is_rest, before_close, close_in}
use Rattle.fox_run_file.specs.Refusals.{broken_header, broken_rest, for_take_up, Passes}
use Rattle.fox_run_file.proofs.Laws.Refusals.{found-later}

turned_round : (t : Bool) (m n : ℕ) → cond (not t) m n ≡ cond t n m
turned_round true m n = refl
turned_round false m n = refl

module _ {cipher rounds key_len : ℕ} (key : Keyed cipher rounds key_len) where
  pub take-up-verdict : (rks file : List ℕ) → refusal_of (for_take_up cipher rounds key_len rks file)
      ≡ cond (is_header cipher rounds file)
      (cond (is_rest cipher rounds file) (cond (same (tag_with cipher rks (before_close cipher file)) (close_in cipher file)) 0 10) 12) 11
  unfolding refusal_of numbered for_key wrong_cipher wrong_rounds long_key for_take_up broken_header broken_rest other_tag
  take-up-verdict rks file =
      let tested = other_tag (tag_with cipher rks (before_close cipher file)) (close_in cipher file) in
      found-later (for_key cipher rounds key_len) (broken_header cipher rounds file ∷ broken_rest cipher rounds file ∷ tested ∷ []) refl (keyed-served key)
      ∙ simp turned_round

pub passes : (cipher rounds key_len : ℕ) (rks file : List ℕ) → refusal_of (for_take_up cipher rounds key_len rks file) ≡ 0
    → Passes cipher rounds key_len rks file
unfolding Passed numbered for_key wrong_cipher wrong_rounds long_key for_take_up broken_header broken_rest other_tag
passes cipher rounds key_len rks file e =
    let p = served-passed (for_take_up cipher rounds key_len rks file) refl e in
    let q = p.1.1.1 in
    record {
      keyed = keyed cipher rounds key_len (passed-served (for_key cipher rounds key_len) (p.0, (p.1.0, (p.1.1.0, tt))));
      header = not-false _ q.0;
      rest = not-false _ q.1.0;
      tag = same_known _ _ (not-false _ q.1.1.0);
    }
