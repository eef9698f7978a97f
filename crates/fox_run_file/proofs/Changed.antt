-- A text that was changed before its line `close` is served only where its own tag is the one in that line, and else refused, with 10 where header and rest
-- are right: the tag is made over all that comes before the line, and is compared with what stands in it.
-- Assumes nothing.
use mathlib.Core.Path.{◌≡◌, sym, ap, ◌∙◌}
use mathlib.Core.Bool.{Bool, true, false, cond}
use mathlib.Core.Logic.{inl, inr}
use mathlib.Core.List.{List}
use Prim.Native.Nat.{ℕ}
use lib.ListN.{length}
use Rattle.fox_layers.specs.Words.{Bytes}
use Rattle.fox_refusals.specs.Refusals.{refusal_of, block_size, same, Keyed}
use Rattle.fox_refusals.proofs.Laws.Refusals.{same_known}
use Rattle.fox_tag.specs.Tag.{tag_with}
use Rattle.fox_text.proofs.Laws.Tests.{by-test}
use Rattle.fox_run_file.specs.Format.{closed_by}
use Rattle.fox_run_file.specs.Says.{is_header, is_rest, before_close, close_in}
use Rattle.fox_run_file.specs.Refusals.{for_take_up, Passes, Told}
use Rattle.fox_run_file.specs.Values.{IsWritten}
use Rattle.fox_run_file.proofs.Laws.Written.{closed-before, closed-tag}
use Rattle.fox_run_file.proofs.Laws.TakeUp.{take-up-verdict, passes}
use Rattle.fox_run_file.proofs.Right.{right-is-written}

number-told : (header rest : Bool) (n : ℕ) → n ≡ cond header (cond rest 10 12) 11 → Told n
number-told true true n e = inl e
number-told true false n e = inr (inr e)
number-told false rest n e = inr (inl e)

-- a text that was closed by any tag of B bytes
module _ (cipher rounds key_len : ℕ) (rks tag t : List ℕ) (size : length tag ≡ block_size cipher) (bytes : Bytes tag) where
  -- it is served only where the tag is the text's own
  pub changed-is-told : refusal_of (for_take_up cipher rounds key_len rks (closed_by tag t)) ≡ 0 → tag_with cipher rks t ≡ tag
  changed-is-told e =
      let p = passes cipher rounds key_len rks (closed_by tag t) e in
      ap (tag_with cipher rks) (sym (closed-before cipher tag t size)) ∙ p.tag ∙ closed-tag cipher tag t size bytes

  -- with another tag it is refused: with 10, unless its header or its rest is broken
  module _ (key : Keyed cipher rounds key_len) (other : tag_with cipher rks t ≡ tag → ⊥) where
    pub changed-refused : refusal_of (for_take_up cipher rounds key_len rks (closed_by tag t))
        ≡ cond (is_header cipher rounds (closed_by tag t)) (cond (is_rest cipher rounds (closed_by tag t)) 10 12) 11
    changed-refused =
        let differ : same (tag_with cipher rks t) tag ≡ false =
        by-test (same (tag_with cipher rks t) tag) (λ e. absurd (other (same_known (tag_with cipher rks t) tag e))) (λ e. e) in
        take-up-verdict key rks (closed_by tag t) ∙ rw (closed-before cipher tag t size, closed-tag cipher tag t size bytes, differ)

    pub changed-whole-refused : is_header cipher rounds (closed_by tag t) ≡ true → is_rest cipher rounds (closed_by tag t) ≡ true
        → refusal_of (for_take_up cipher rounds key_len rks (closed_by tag t)) ≡ 10
    changed-whole-refused header rest = changed-refused ∙ rw (header, rest)

    pub changed-told : Told (refusal_of (for_take_up cipher rounds key_len rks (closed_by tag t)))
    changed-told = number-told (is_header cipher rounds (closed_by tag t)) (is_rest cipher rounds (closed_by tag t)) _ changed-refused

-- so, of a file that is served: another text before its line `close` is served only where it has the same tag as what stood there, and else refused
module _ (cipher rounds key_len : ℕ) (rks file t : List ℕ) (served : refusal_of (for_take_up cipher rounds key_len rks file) ≡ 0) where
  was-right : Passes cipher rounds key_len rks file
  was-right = passes cipher rounds key_len rks file served

  was-written : IsWritten cipher rounds file
  was-written = right-is-written cipher rounds file was-right.header was-right.rest

  pub changed-file-is-told : refusal_of (for_take_up cipher rounds key_len rks (closed_by (close_in cipher file) t)) ≡ 0
      → tag_with cipher rks t ≡ tag_with cipher rks (before_close cipher file)
  changed-file-is-told e =
      changed-is-told cipher rounds key_len rks (close_in cipher file) t was-written.tag was-written.bytes e ∙ sym was-right.tag

  pub changed-file-told : (tag_with cipher rks t ≡ tag_with cipher rks (before_close cipher file) → ⊥)
      → Told (refusal_of (for_take_up cipher rounds key_len rks (closed_by (close_in cipher file) t)))
  changed-file-told other =
      changed-told cipher rounds key_len rks (close_in cipher file) t was-written.tag was-written.bytes was-right.keyed
      (λ e. other (e ∙ sym was-right.tag))
