-- The first 240 bytes of a text settle its answer, however long the text is. A well-formed line has at most 12 bytes for the cipher or the rounds, 132 for
-- the key, 8 for the way and 70 for the block, each with one more that ends it: 239 in all, and one byte more shows whether text follows.
-- Assumes nothing.
use mathlib.Core.Path.{◌≡◌, refl}
use mathlib.Core.Bool.{Bool, true, false, ◌||◌}
use mathlib.Core.List.{List, ◌++◌}
use Prim.Native.Nat.{ℕ, ◌≤◌}
use native.Mathlib.Omega.{arith}
use lib.ListN.{length, take}
use lib.Dec.{eqb}
use borrow.Author.Tests.{eqb-true}
use Rattle.fox_text.specs.Ascii.{codes, ascii, same}
use Rattle.fox_text.specs.Lines.{lines}
use Rattle.fox_text.proofs.Laws.Tests.{by-test}
use Rattle.fox_text.proofs.Laws.Prefixes.{Prefix, Within, Settled, end, next, broken-prefix, lines-prefix, decimal-within, pairs-within, same_length}
use Rattle.fox_text.specs.Names.{cipher_name, rounds_name}
use Rattle.fox_sheet.specs.Sheet.{key_name, seal_way, open_way, block_name, is_way_line, setting_tests, task_tests, broken_line, values_of}
use Rattle.fox_sheet.specs.Answer.{answer_of}

either-length : (b : Bool) (l : List ℕ) → same seal_way l ≡ b → (b || same open_way l) ≡ true → length l ≤ 8
unfolding seal_way open_way codes ascii
either-length true l h e = omega (arith, same_length seal_way l h)
either-length false l h e = omega (arith, same_length open_way l e)

way-within : Within 8 is_way_line
unfolding is_way_line
way-within l e = either-length (same seal_way l) l refl e

sheet-settled : Settled (setting_tests ++ task_tests) 240
unfolding setting_tests task_tests cipher_name rounds_name key_name block_name codes ascii
sheet-settled =
    next (decimal-within 65535 cipher_name (omega arith)) (next (decimal-within 65535 rounds_name (omega arith)) (next (pairs-within 64 key_name)
    (next way-within (next (pairs-within 32 block_name) end))))

module _ {s t : List ℕ} (p : Prefix 240 s t) where
  same-broken : broken_line s ≡ broken_line t
  unfolding broken_line
  same-broken = broken-prefix 1 sheet-settled p

  same_lines : broken_line t ≡ 0 → lines 5 s ≡ lines 5 t
  unfolding broken_line setting_tests task_tests
  same_lines right = lines-prefix 0 sheet-settled p right

  pub answer-of-part : answer_of s ≡ answer_of t
  unfolding answer_of values_of
  answer-of-part =
      rw same-broken
      (by-test (eqb (broken_line t) 0) (λ e. rw (e, same_lines (eqb-true (broken_line t) 0 e))) (λ e. rw e))

pub answer-of-prefix : (t : List ℕ) (n : ℕ) → 240 ≤ n → answer_of (take n t) ≡ answer_of t
answer-of-prefix t n h = answer-of-part (record { kept = n; enough = h; is = refl })
