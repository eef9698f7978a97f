-- A file taken up: its refusals are those of the key, of the text and of the tag, one after the other, and each is looked at only where none applies before it.
-- Assumes nothing.
use mathlib.Core.Path.{◌≡◌, refl, sym, ◌∙◌}
use mathlib.Core.Bool.{true, cond, not}
use mathlib.Core.List.{List, [], ◌∷◌, ◌++◌}
use Prim.Native.Nat.{ℕ}
use borrow.Author.Tests.{not-false}
use Rattle.std.specs.Prelude.{Ok, Err}
use Rattle.fox_refusals.specs.Answer.{number_of}
use Rattle.fox_refusals.specs.declared.refusal.Refusal as code
use Rattle.fox_refusals.specs.Refusals.{Refusal, refusal_of, or_else, wrong_cipher, wrong_rounds, long_key, for_key, other_tag}
use Rattle.fox_refusals.proofs.Laws.Refusals.{Passed, numbered, served-passed}
use Rattle.fox_refusals.proofs.Laws.Reply.{number_not_zero, chosen, passed_over}
use Rattle.fox_tag.specs.Tag.{tag_with}
use Rattle.fox_text.proofs.Laws.Tests.{by-test}
use Rattle.fox_run_file.specs.Outcomes.{taken_of}
use Rattle.fox_run_file.specs.Sizes.{header_size}
use Rattle.fox_run_file.specs.Says.{is_header, is_rest, before_close, close_in}
use Rattle.fox_run_file.specs.Refusals.{broken_header, broken_rest, for_take_up}
use Rattle.fox_run_file.specs.Places.{first_place, no_place}
use Rattle.fox_run_file.specs.Promise.{TakesUpWith}
use Rattle.fox_run_file.proofs.Laws.Refusals.{found_first, found-later}

abbrev pub text : ℕ → ℕ → List ℕ → List Refusal
text c r file = broken_header c r file ∷ broken_rest c r file ∷ []

pub text_tests : (c r : ℕ) (file : List ℕ) → refusal_of (broken_header c r file ∷ broken_rest c r file ∷ [])
    ≡ or_else (cond (not (is_header c r file)) 11 0) (not (is_rest c r file)) 12
unfolding refusal_of or_else broken_header broken_rest
text_tests c r file = by-test (is_header c r file) (λ e. rw e) (λ e. rw e)

-- a file whose text is not refused has a right rest
pub text-right : (c r : ℕ) (file : List ℕ) → refusal_of (text c r file) ≡ 0 → is_rest c r file ≡ true
unfolding Passed numbered broken_header broken_rest
text-right c r file y = not-false (is_rest c r file) (served-passed (text c r file) refl y).1.0

module _ (c r k : ℕ) (rks file : List ℕ) where
  abbrev tag : List Refusal
  tag = other_tag (tag_with c rks (before_close c file)) (close_in c file) ∷ []

  pub of-key : {n : ℕ} → n ≡ refusal_of (for_key c r k) → (n ≡ 0 → ⊥) → n ≡ refusal_of (for_take_up c r k rks file)
  unfolding for_take_up
  of-key e isnt = found_first (for_key c r k) (text c r file ++ tag) e isnt

  past-key : refusal_of (for_key c r k) ≡ 0 → refusal_of (for_take_up c r k rks file) ≡ refusal_of (text c r file ++ tag)
  unfolding for_take_up numbered for_key wrong_cipher wrong_rounds long_key
  past-key z = found-later (for_key c r k) (text c r file ++ tag) refl z

  pub of-text : {n : ℕ} → refusal_of (for_key c r k) ≡ 0 → n ≡ refusal_of (text c r file) → (n ≡ 0 → ⊥) → n ≡ refusal_of (for_take_up c r k rks file)
  of-text z e isnt = found_first (text c r file) tag e isnt ∙ sym (past-key z)

  pub of-tag : {n : ℕ} → refusal_of (for_key c r k) ≡ 0 → refusal_of (text c r file) ≡ 0 → n ≡ refusal_of tag → n ≡ refusal_of (for_take_up c r k rks file)
  unfolding numbered broken_header broken_rest
  of-tag z y e = e ∙ sym (past-key z ∙ found-later (text c r file) tag refl y)

  -- what a call answers that refuses, and one that takes the file up

  pub refused-taken : (e : code.Refusal) → number_of e ≡ refusal_of (for_take_up c r k rks file) → TakesUpWith c r k rks file (taken_of (Err e))
  refused-taken e is =
      record {
        refusal = is;
        place = passed_over (refusal_of (for_take_up c r k rks file)) (first_place c r) no_place (λ z. number_not_zero e (is ∙ z));
      }

  pub served-taken : {n : ℕ} → refusal_of (for_take_up c r k rks file) ≡ 0 → n ≡ header_size c r
      → TakesUpWith c r k rks file (taken_of (Ok (record { at = n; scans = 0; offset = 0 })))
  unfolding first_place
  served-taken z is =
      record { refusal = sym z; place = rw is (chosen (refusal_of (for_take_up c r k rks file)) (first_place c r) no_place z) }
