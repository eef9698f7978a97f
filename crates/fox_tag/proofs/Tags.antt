-- Calls on tags, of any engines and with any list of round keys: when making one is served and what it gives, when testing one answers 0 and when 10, and that
-- two calls answer the same.
-- Assumes nothing.
use mathlib.Core.Path.{◌≡◌, sym, ap, ap₂, ◌∙◌}
use mathlib.Core.Bool.{Bool, true, false, cond}
use mathlib.Core.List.{List}
use Prim.Native.Nat.{ℕ, ◌≤◌}
use lib.ListN.{length}
use Rattle.fox_layers.proofs.Laws.Lists.{by-test}
use Rattle.fox_refusals.specs.Refusals.{refusal_of, block_size, same, for_tag, Keyed, Tagged}
use Rattle.fox_refusals.specs.Reply.{Served, Same}
use Rattle.fox_refusals.specs.Answer.{Answer}
use Rattle.fox_refusals.proofs.Laws.Refusals.{tagged, tagged-served, tag-verdict, test-passed, test-differs, same_refl, same_known}
use Rattle.fox_refusals.proofs.Laws.Reply.{served, same as same-replies}
use Rattle.fox_block.proofs.Laws.Block.{length-turned}
use Rattle.fox_tag.specs.Tag.{tag_with}
use Rattle.fox_tag.specs.Promise.{MakesTagWith, TestsTagWith}
use Rattle.fox_tag.proofs.Laws.Chain.{length-cmac}

-- a tag has B bytes
pub length-tag : (c : ℕ) (rks message : List ℕ) → length (tag_with c rks message) ≡ block_size c
unfolding tag_with
length-tag c rks message = length-cmac (block_size c) _ message (λ block. length-turned true c rks block)

module _ (c rounds key_len : ℕ) (rks message : List ℕ) where
  -- making a tag is served for every message of at most 1,073,741,824 bytes and a buffer of B bytes, and gives the tag
  pub tag-made : {before after : List ℕ} {r : Answer} → Keyed c rounds key_len → length message ≤ 1073741824 → length before ≡ block_size c
      → MakesTagWith c rounds key_len rks message before after r → Served (block_size c) (tag_with c rks message) after r
  tag-made k few room call =
      let s = served call (tagged-served true (record { keyed = k; message = few; tag = room })) in
      record { refusal = s.refusal; count = s.count ∙ room; output = s.output }

  -- the right tag passes
  pub right-passes : {stored : List ℕ} {r : Answer} → Keyed c rounds key_len → length message ≤ 1073741824 → stored ≡ tag_with c rks message
      → TestsTagWith c rounds key_len rks message stored r → r.refusal ≡ 0
  right-passes {stored} k few is call =
      let right = tag_with c rks message in
      let room = ap length is ∙ length-tag c rks message in
      call.refusal
      ∙ tag-verdict right stored (record { keyed = k; message = few; tag = room })
      ∙ ap (λ (t : Bool). cond t 0 10) (ap (same right) is ∙ same_refl right)

  -- any other tag of B bytes is refused with 10
  pub other-told : {stored : List ℕ} {r : Answer} → Keyed c rounds key_len → length message ≤ 1073741824 → length stored ≡ block_size c
      → (stored ≡ tag_with c rks message → ⊥) → TestsTagWith c rounds key_len rks message stored r → r.refusal ≡ 10
  other-told {stored} k few room isnt call =
      let right = tag_with c rks message in
      call.refusal
      ∙ tag-verdict right stored (record { keyed = k; message = few; tag = room })
      ∙ by-test (same right stored) (λ t. absurd (isnt (sym (same_known right stored t)))) (λ t. ap (λ (b : Bool). cond b 0 10) t)

  module _ {stored : List ℕ} {r : Answer} (call : TestsTagWith c rounds key_len rks message stored r) where
    -- a test answers 0 only where the stored tag is the right one
    pub passed-right : r.refusal ≡ 0 → Tagged c rounds key_len (length message) (length stored) × (stored ≡ tag_with c rks message)
    passed-right z =
        let p = test-passed c rounds key_len (length message) (tag_with c rks message) stored (sym call.refusal ∙ z) in
        (p.0, sym p.1)

    -- and 10 only where it is not
    pub told-other : r.refusal ≡ 10 → Tagged c rounds key_len (length message) (length stored) × (stored ≡ tag_with c rks message → ⊥)
    told-other t =
        let p = test-differs c rounds key_len (length message) (tag_with c rks message) stored (sym call.refusal ∙ t) in
        (p.0, λ e. p.1 (sym e))

  -- a tag that one call made passes the test of another
  pub made-passes : {before after : List ℕ} {r s : Answer} → MakesTagWith c rounds key_len rks message before after r → r.refusal ≡ 0
      → TestsTagWith c rounds key_len rks message after s → (s.refusal ≡ 0) × (s.count ≡ 0)
  made-passes {before} make z test =
      let none = sym make.refusal ∙ z in
      let known = tagged true c rounds key_len (length message) (length before) none in
      (right-passes known.keyed known.message (served make none).output test, test.count)

-- Two calls that make the tag of the same message, with buffers of one length, answer the same, and so do two that test the same stored tag.
pub tags-same : (c rounds key_len : ℕ) (rks message : List ℕ) {before₁ before₂ after₁ after₂ : List ℕ} {r₁ r₂ : Answer} → length before₁ ≡ length before₂
    → MakesTagWith c rounds key_len rks message before₁ after₁ r₁ → MakesTagWith c rounds key_len rks message before₂ after₂ r₂
    → Same before₁ before₂ after₁ after₂ r₁ r₂
tags-same c rounds key_len rks message l a b = same-replies (ap (for_tag true c rounds key_len (length message)) l) l a b

pub tests_same : (c rounds key_len : ℕ) (rks message stored : List ℕ) {r₁ r₂ : Answer} → TestsTagWith c rounds key_len rks message stored r₁
    → TestsTagWith c rounds key_len rks message stored r₂ → (r₁.refusal ≡ r₂.refusal) × (r₁.count ≡ r₂.count)
tests_same c rounds key_len rks message stored a b = (a.refusal ∙ sym b.refusal, a.count ∙ sym b.count)
