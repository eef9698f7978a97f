-- The well-formed sheets are exactly those written from values in range. A sheet written from such values is well-formed and says them, since each line of it
-- is read as it was written; and a well-formed sheet is the one that is written from what it says, which is in range. So no two sheets say the same.
-- Assumes nothing.
use mathlib.Core.Path.{◌≡◌, refl, sym, ◌∙◌}
use mathlib.Core.Bool.{Bool, true, false}
use mathlib.Core.List.{List, ◌++◌}
use Prim.Native.Nat.{ℕ}
use native.Mathlib.Omega.{arith}
use Rattle.fox_text.specs.Ascii.{codes, ascii, starts_with, same}
use Rattle.fox_text.specs.Lines.{lines}
use Rattle.fox_text.proofs.Laws.Written.{Plain, Plains, Passing, cipher-plain, rounds-plain, written-right, written-lines, right-lines}
use Rattle.fox_text.proofs.Laws.Values.{same-is, decimal-line-right, decimal-line-read, decimal-line-plain, decimal-line-again}
use Rattle.fox_text.proofs.Laws.Values.{pairs-line-right, pairs-line-read, pairs-line-plain, pairs-line-again}
use Rattle.fox_text.specs.Names.{cipher_name, rounds_name}
use Rattle.fox_sheet.specs.Sheet.{key_name, seal_way, open_way, block_name, is_way_line, setting_tests, task_tests}
use Rattle.fox_sheet.specs.Sheet.{broken_line, Values, said, values_of}
use Rattle.fox_sheet.proofs.Laws.{same-values}
use Rattle.fox_sheet.specs.Written.{way_text, lines_of, sheet_text, InRange, WrittenFrom, Says}

-- names and ways have no line feed

key-plain : Plain key_name
unfolding key_name codes ascii Plain
key-plain = (refl, (refl, (refl, (refl, tt))))

block-plain : Plain block_name
unfolding block_name codes ascii Plain
block-plain = (refl, (refl, (refl, (refl, (refl, (refl, tt))))))

way-plain : (sealing : Bool) → Plain (way_text sealing)
unfolding way_text open_way seal_way codes ascii Plain
way-plain true = (refl, (refl, (refl, (refl, (refl, (refl, (refl, (refl, tt))))))))
way-plain false = (refl, (refl, (refl, (refl, (refl, (refl, (refl, (refl, tt))))))))

-- a written sheet is well-formed, and says what it was written from

way-right : (sealing : Bool) → is_way_line (way_text sealing) ≡ true
unfolding is_way_line way_text open_way seal_way codes ascii starts_with
way-right true = refl
way-right false = refl

way-read : (sealing : Bool) → same seal_way (way_text sealing) ≡ sealing
unfolding way_text open_way seal_way codes ascii starts_with
way-read true = refl
way-read false = refl

module _ {v : Values} (r : InRange v) where
  lines-passing : Passing (setting_tests ++ task_tests) (lines_of v)
  unfolding Passing setting_tests task_tests lines_of
  lines-passing = (
    decimal-line-right _ v.cipher cipher_name (omega (arith, r.cipher)) (omega (arith, r.cipher)),
    (
      decimal-line-right _ v.rounds rounds_name (omega (arith, r.rounds)) (omega (arith, r.rounds)),
      (
        pairs-line-right _ key_name v.key (omega (arith, r.key)) r.key_bytes,
        (way-right v.sealing, (pairs-line-right _ block_name v.block (omega (arith, r.block)) r.block_bytes, tt)),
      ),
    ),
  )

  lines-plain : Plains (lines_of v)
  unfolding Plains lines_of
  lines-plain = (
    decimal-line-plain cipher_name v.cipher cipher-plain,
    (
      decimal-line-plain rounds_name v.rounds rounds-plain,
      (
        pairs-line-plain key_name v.key key-plain r.key_bytes,
        (
          way-plain v.sealing,
          (pairs-line-plain block_name v.block block-plain r.block_bytes, tt),
        ),
      ),
    ),
  )

  lines-said : said (lines_of v) ≡ v
  unfolding said lines_of
  lines-said =
      same-values (way-read v.sealing) (decimal-line-read _ v.cipher cipher_name (omega (arith, r.cipher)) (omega (arith, r.cipher)))
      (decimal-line-read _ v.rounds rounds_name (omega (arith, r.rounds)) (omega (arith, r.rounds)))
      (pairs-line-read _ key_name v.key (omega (arith, r.key)) r.key_bytes)
      (pairs-line-read _ block_name v.block (omega (arith, r.block)) r.block_bytes)

  read_again : lines 5 (sheet_text v) ≡ lines_of v
  unfolding sheet_text lines_of
  read_again = written-lines (lines_of v) lines-plain

pub written-is-read : {v : Values} {t : List ℕ} → WrittenFrom v t → Says v t
unfolding broken_line sheet_text values_of
written-is-read {v} w =
    record {
      right = rw w.text (written-right 1 (setting_tests ++ task_tests) (lines_of v) (lines-passing w.range) (lines-plain w.range));
      values = rw (w.text, read_again w.range) (lines-said w.range);
    }

-- a well-formed sheet is written from values in range

way-again : (b : Bool) (l : List ℕ) → same seal_way l ≡ b → is_way_line l ≡ true → l ≡ way_text b
unfolding is_way_line way_text
way-again true l e h = same-is seal_way l e
way-again false l e h = same-is open_way l (rw e at h)

pub right-is-written : (t : List ℕ) → broken_line t ≡ 0 → WrittenFrom (values_of t) t
unfolding broken_line Passing setting_tests task_tests lines values_of said sheet_text lines_of
right-is-written t right =
    let r = right-lines 0 (setting_tests ++ task_tests) t right in
    let k = r.passing in
    let cipher = decimal-line-again _ cipher_name _ (omega arith) k.0 in
    let rounds = decimal-line-again _ rounds_name _ (omega arith) k.1.0 in
    let key = pairs-line-again _ key_name _ k.1.1.0 in
    let way = way-again _ _ refl k.1.1.1.0 in
    let block = pairs-line-again _ block_name _ k.1.1.1.1.0 in
    record {
      range =
          record {
            cipher = cipher.range;
            rounds = rounds.range;
            key = key.few;
            key_bytes = key.bytes;
            block = block.few;
            block_bytes = block.bytes;
          };
      text = r.text ∙ cc (cipher.text, rounds.text, key.text, way, block.text);
    }

-- so no two sheets say the same

pub says-written : {v : Values} {t : List ℕ} → Says v t → WrittenFrom v t
says-written {v} {t} s = rw s.values at (right-is-written t s.right)

pub says-once : {v : Values} {s t : List ℕ} → Says v s → Says v t → s ≡ t
says-once a b = (says-written a).text ∙ sym (says-written b).text
