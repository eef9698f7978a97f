-- Lines of a run file: a line that was written is compared as the text that it is, and a block has the cipher's size, at most 16 bytes.
-- Assumes nothing.
use mathlib.Core.Path.{◌≡◌, sym, ◌∙◌}
use mathlib.Core.Bool.{Bool, true, false, true≢false}
use mathlib.Core.List.{List}
use Prim.Native.Nat.{ℕ, ◌≤◌}
use native.Mathlib.Omega.{arith}
use borrow.Author.Rules.{rules}
use Rattle.std.specs.Prelude.{Some, None}
use Rattle.std.specs.Bool.{then_some}
use lib.Dec.{eqb, ltb}
use lib.ListN.{length, take}
use borrow.Author.Tests.{eqb-true, ltb-true, ltb-false}
use Rattle.fox_refusals.specs.Refusals.{block_size}
use Rattle.fox_text.specs.Ascii.{starts_with}
use Rattle.fox_text.specs.Lines.{line}
use Rattle.fox_text.specs.Rules.{is_line}
use Rattle.fox_text.specs.Put.{Put}
use Rattle.fox_text.specs.Fields.{is_pairs_line, pairs_in, decimal_line_text}
use Rattle.fox_text.proofs.Laws.Tests.{both, by-test}
use Rattle.fox_text.proofs.Laws.Lines.{starts-short}
use Rattle.fox_text.proofs.Laws.Stores.{put-stored, stored}
use Rattle.fox_run_file.specs.Says.{is_block_line, block_in}
use Rattle.fox_run_file.specs.Parts.{ReadsBlock, FindsLine}

pub block-small : (cipher : ℕ) → block_size cipher ≤ 16
unfolding block_size
block-small cipher = by-test (eqb cipher 64) (λ e. rw e (omega arith)) (λ e. rw e (omega arith))

-- what was written at the start of a buffer with room for it, and then looked for at the start of a text
pub compared : {most n : ℕ} {text before after : List ℕ} {r : Bool} (t : List ℕ) → Put most text before after 0 n → most ≤ length before
    → r ≡ starts_with (take n after) t → r ≡ starts_with text t
compared t p room e = e ∙ rw (put-stored p room).part

-- a text that begins with a name is at least as long as the name
pub starts-long : (name t : List ℕ) → starts_with name t ≡ true → length name ≤ length t
starts-long name t e =
    by-test (ltb (length t) (length name)) (λ h. absurd (true≢false (sym e ∙ starts-short name t (ltb-true (length t) (length name) h))))
    (λ h. ltb-false (length t) (length name) h)

-- a line of a name and a number

module _ (name : List ℕ) (number : ℕ) (t : List ℕ) where
  found-line : {n : ℕ} → starts_with (decimal_line_text name number) t ≡ true → n ≡ length (decimal_line_text name number) → FindsLine name number t (Some n)
  found-line starts long =
      let fits = starts-long (decimal_line_text name number) t starts in
      record { is = rw (starts, long); within = omega arith }

  no_line : starts_with (decimal_line_text name number) t ≡ false → FindsLine name number t None
  no_line e = record { is = rw e; within = search rules }

  pub line-told : {n : ℕ} {b : Bool} → b ≡ starts_with (decimal_line_text name number) t → n ≡ length (decimal_line_text name number)
      → FindsLine name number t (then_some b n)
  line-told same long =
      by-test (starts_with (decimal_line_text name number) t) (λ e. rw (same, e) (found-line e long)) (λ e. rw (same, e) (no_line e))

  pub line-missing : FindsLine name number t None → starts_with (decimal_line_text name number) t ≡ false
  line-missing found = by-test (starts_with (decimal_line_text name number) t) (λ e. let is = rw e at found.is in cc) (λ e. e)

  pub line-there : {n : ℕ} → FindsLine name number t (Some n)
      → (starts_with (decimal_line_text name number) t ≡ true) × (n ≡ length (decimal_line_text name number))
  line-there found =
      by-test (starts_with (decimal_line_text name number) t) (λ e. let is = rw e at found.is in (e, cc)) (λ e. let is = rw e at found.is in cc)

-- a right line's block has the cipher's size, and what reading the line put at the start of a buffer is this block

pub block-length : (name : List ℕ) (cipher : ℕ) (t : List ℕ) → is_block_line name cipher t ≡ true → length (block_in name cipher t) ≡ block_size cipher
unfolding is_block_line block_in
block-length name cipher t e =
    let size = block_size cipher in
    let long = length (pairs_in size name (line t)) in
    eqb-true long size (both (is_line (is_pairs_line size name) t) (eqb long size) e).1

pub block-part : (name : List ℕ) (cipher : ℕ) (t : List ℕ) {before after : List ℕ} {r : Bool} → ReadsBlock name cipher t before after r
    → is_block_line name cipher t ≡ true → block_size cipher ≤ length before → take (block_size cipher) after ≡ block_in name cipher t
block-part name cipher t {before} read e room =
    let long = block-length name cipher t e in
    (stored {text = block_in name cipher t} {before = before} (sym long) (omega arith) room read.bytes).part
