-- The end of a file whose rest is right. What comes after the scans is an end of the file, and the line `close` ends it, so the file's last bytes, as many as
-- such a line has, are that line; and a test of the tag in it, over all that comes before, meets no refusal but that the tag differs.
-- Assumes nothing.
use mathlib.Core.Path.{◌≡◌, refl, sym, ap, ◌∙◌}
use mathlib.Core.Bool.{Bool, true, false, cond, not, ◌&&◌}
use mathlib.Core.List.{List, [], ◌∷◌}
use Prim.Native.Nat.{ℕ, zero, suc, ◌+◌, ◌-◌, ◌≤◌}
use native.Mathlib.Omega.{arith}
use lib.Dec.{eqb, leb}
use lib.ListN.{length, take, drop, length-append, length-drop}
use lib.Seq.{drop-drop}
use borrow.Author.Tests.{ltb-true, eqb-true, leb-true}
use Rattle.fox_refusals.specs.Refusals.{refusal_of, block_size, same, other_tag, for_tag_test, Keyed}
use Rattle.fox_refusals.specs.Answer.{Answer}
use Rattle.fox_refusals.proofs.Laws.Refusals.{tag-verdict}
use Rattle.fox_tag.specs.Tag.{tag_with}
use Rattle.fox_tag.specs.Promise.{TestsTagWith}
use Rattle.fox_text.specs.Ascii.{empty, starts_with}
use Rattle.fox_text.specs.Lines.{line_end, has_line, line, after_line}
use Rattle.fox_text.specs.Rules.{is_line}
use Rattle.fox_text.specs.Hex.{hex_text}
use Rattle.fox_text.specs.Fields.{is_pairs_line, pairs_in, pairs_line, decimal_line_text}
use Rattle.fox_text.proofs.Laws.Tests.{both, by-test}
use Rattle.fox_text.proofs.Laws.Lines.{length-line}
use Rattle.fox_text.proofs.Laws.Pairs.{length-hex-text}
use Rattle.fox_text.proofs.Laws.Values.{pairs-line-again}
use Rattle.fox_run_file.specs.Format.{scans_name, close_name}
use Rattle.fox_run_file.specs.Sizes.{header_size, block_line_size}
use Rattle.fox_run_file.specs.Says.{is_block_line, head_in, size_in, is_scan, after_scan, after_scans, close_text, is_end, scans_from, scans_of}
use Rattle.fox_run_file.specs.Says.{before_close, close_in, is_rest}
use Rattle.fox_run_file.specs.Parts.{ReadsBlock}
use Rattle.fox_run_file.proofs.Laws.Lines.{block-length, block-part}

-- u is an end of t
record Tail (t u : List ℕ) : Type 0 where
  at : ℕ
  is : u ≡ drop at t

tail-drop : {t u : List ℕ} (n : ℕ) → Tail t u → Tail t (drop n u)
tail-drop {t} n p = record { at = p.at + n; is = rw p.is (drop-drop n p.at t) }

tail-scan : {t u : List ℕ} (number : ℕ) → Tail t u → Tail t (after_scan number u)
unfolding after_scan
tail-scan {u = u} number p = tail-drop (suc (size_in number u)) (tail-drop (head_in number u) p)

tail-scans : {t : List ℕ} (most n : ℕ) (u : List ℕ) → Tail t u → Tail t (after_scans most n u)
unfolding after_scans
tail-scans zero n u p = p
tail-scans (suc most) n u p =
    by-test (is_scan (suc n) u) (λ e. rw e (tail-scans most (suc n) (after_scan (suc n) u) (tail-scan (suc n) p))) (λ e. rw e p)

-- an end of so many bytes is what is left after all but these
tail-last : {t u : List ℕ} (k : ℕ) → Tail t u → length u ≡ k → 1 ≤ k → (k ≤ length t) × (u ≡ drop (length t - k) t)
tail-last {t} k p long some =
    let left : length t - p.at ≡ k = sym (length-drop p.at t) ∙ ap length (sym p.is) ∙ long in
    let same : p.at ≡ length t - k = omega arith in
    (omega arith, p.is ∙ ap (λ (n : ℕ). drop n t) same)

-- a text that is a line of a name and a block, and nothing after it, has as many bytes as such a line
alone : (name : List ℕ) (cipher : ℕ) (u : List ℕ) → is_block_line name cipher u ≡ true → empty (after_line u) ≡ true → length u ≡ block_line_size name cipher
unfolding is_block_line is_line after_line block_line_size pairs_line
alone name cipher u e none =
    let size = block_size cipher in
    let bytes = pairs_in size name (line u) in
    let (right, block) = both (is_line (is_pairs_line size name) u) (eqb (length bytes) size) e in
    let (ended, pairs) = both (has_line u) (is_pairs_line size name (line u)) right in
    let text = ap length (pairs-line-again size name (line u) pairs).text in
    omega (
      arith,
      eqb-true (length bytes) size block,
      ltb-true (line_end u) (length u) ended,
      eqb-true (length (after_line u)) 0 none,
      text,
      length-append name (hex_text bytes),
      length-hex-text bytes,
      length-line u,
      length-drop (suc (line_end u)) u,
    )

-- what holds of a file whose rest is right: the line `close` is its end, and what comes before it is no longer than a message can be
pub record Closed (cipher : ℕ) (file : List ℕ) : Type 0 where
  pub room : block_line_size close_name cipher ≤ length file
  pub line : is_block_line close_name cipher (drop (length file - block_line_size close_name cipher) file) ≡ true
  pub short : length (before_close cipher file) ≤ 1073741824

pub closed : (cipher rounds : ℕ) (file : List ℕ) → is_rest cipher rounds file ≡ true → Closed cipher file
unfolding is_rest is_end block_line_size
closed cipher rounds file e =
    let n = length (scans_of cipher rounds file) in
    let t = after_scans 65535 0 (scans_from cipher rounds file) in
    let u = close_text n t in
    let (end, short) = both (is_end cipher n t) (leb (length (before_close cipher file)) 1073741824) e in
    let (lines, none) = both (starts_with (decimal_line_text scans_name n) t && is_block_line close_name cipher u) (empty (after_line u)) end in
    let right = (both (starts_with (decimal_line_text scans_name n) t) (is_block_line close_name cipher u) lines).1 in
    let from : Tail file u =
    tail-drop (length (decimal_line_text scans_name n)) (tail-scans 65535 0 (scans_from cipher rounds file) (record { at = header_size cipher rounds; is = refl })) in
    let (room, is) = tail-last (block_line_size close_name cipher) from (alone close_name cipher u right none) (omega arith) in
    record { room = room; line = rw is at right; short = leb-true (length (before_close cipher file)) 1073741824 short }

-- the tag in the line `close`, read into a buffer and tested over all that comes before

turned_round : (t : Bool) → ◌≡◌ {A = ℕ} (cond t 0 10) (cond (not t) 10 0)
turned_round true = refl
turned_round false = refl

module _ (c r k : ℕ) (rks file : List ℕ) (keyed : Keyed c r k) (right : is_rest c r file ≡ true) where
  tag-settles : refusal_of (for_tag_test c r k (length (before_close c file)) (tag_with c rks (before_close c file)) (close_in c file))
      ≡ refusal_of (other_tag (tag_with c rks (before_close c file)) (close_in c file) ∷ [])
  unfolding refusal_of other_tag close_in
  tag-settles =
      let end = closed c r file right in
      tag-verdict (tag_with c rks (before_close c file)) (close_in c file)
      (record { keyed = keyed; message = end.short; tag = block-length close_name c _ end.line })
      ∙ turned_round (same (tag_with c rks (before_close c file)) (close_in c file))

  pub tag-told : {m n : ℕ} {before after : List ℕ} {b : Bool} {a : Answer} → m ≡ length file - block_line_size close_name c → n ≡ block_size c
      → block_size c ≤ length before → ReadsBlock close_name c (drop m file) before after b → TestsTagWith c r k rks (take m file) (take n after) a
      → a.refusal ≡ refusal_of (other_tag (tag_with c rks (before_close c file)) (close_in c file) ∷ [])
  unfolding before_close close_in
  tag-told {after = after} em en room read tested =
      let part : take (block_size c) after ≡ close_in c file = block-part close_name c _ (rw em at read) (closed c r file right).line room in
      rw (em, en, part) at tested.refusal ∙ tag-settles
