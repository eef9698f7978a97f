-- What was found in a run file is there as it would be written: its header, each whole scan, the end, and so whole scans one after the other. Each test asks
-- for lines that, by the laws on texts, are as they would be written, and for bytes that are taken as they stand.
-- Assumes nothing.
use mathlib.Core.Path.{◌≡◌, refl, sym, ap, ◌∙◌}
use mathlib.Core.Bool.{true, false, ◌&&◌}
use mathlib.Core.List.{List, [], ◌∷◌, ◌++◌, append_assoc, append-nil}
use Prim.Native.Nat.{ℕ, zero, suc, ◌≤◌}
use native.Mathlib.Numerals.{add-one}
use native.Mathlib.Omega.{arith}
use lib.ListN.{length, take, drop, take-append-drop}
use lib.Seq.{drop-drop, append_snoc}
use lib.Dec.{eqb}
use borrow.Author.Tests.{eqb-true, le-ltb}
use Rattle.fox_layers.specs.Words.{Bytes}
use Rattle.fox_refusals.specs.Refusals.{block_size}
use Rattle.fox_text.specs.Ascii.{empty, starts_with}
use Rattle.fox_text.specs.Lines.{line, line_end, after_line}
use Rattle.fox_text.specs.Rules.{is_line}
use Rattle.fox_text.specs.Fields.{is_decimal_line, is_pairs_line, pairs_in, decimal_line_text, pairs_line_text}
use Rattle.fox_text.proofs.Laws.Tests.{both, by-test}
use Rattle.fox_text.proofs.Laws.Written.{nothing}
use Rattle.fox_text.proofs.Laws.Values.{starts-split}
use Rattle.fox_text.proofs.Laws.TextsAgain.{from-after, decimal-first, pairs_first}
use Rattle.fox_run_file.specs.Format.{counter_name, scan_name, bytes_name, scans_name, close_name, key_lines, header_text, scan_head, scan_text, scans_text}
use Rattle.fox_run_file.specs.Sizes.{header_size, any_above}
use Rattle.fox_run_file.specs.Says.{is_block_line, block_in, counter_text, is_header, counter_in, bytes_text, size_in, head_in, from_bytes, is_scan, bytes_in}
use Rattle.fox_run_file.specs.Says.{after_scan, scans_in, after_scans, close_text, is_end}
use Rattle.fox_run_file.specs.Values.{sizes_of}
use Rattle.fox_run_file.proofs.Laws.Lengths.{length-header}
use Rattle.fox_run_file.proofs.Laws.Scan.{bytes-length}

-- lines of a block

pub record BlockFirst (name : List ℕ) (cipher : ℕ) (t : List ℕ) : Type 0 where
  pub size : length (block_in name cipher t) ≡ block_size cipher
  pub bytes : Bytes (block_in name cipher t)
  pub text : t ≡ pairs_line_text name (block_in name cipher t) ++ after_line t

pub block-first : (name : List ℕ) (cipher : ℕ) (t : List ℕ) → is_block_line name cipher t ≡ true → BlockFirst name cipher t
unfolding is_block_line block_in
block-first name cipher t e =
    let B = block_size cipher in
    let (right, size) = both (is_line (is_pairs_line B name) t) (eqb (length (pairs_in B name (line t))) B) e in
    let first = pairs_first B name t right in
    record { size = eqb-true _ _ size; bytes = first.bytes; text = first.text }

-- the header

pub record HeaderFirst (cipher rounds : ℕ) (file : List ℕ) : Type 0 where
  pub block : length (counter_in cipher rounds file) ≡ block_size cipher
  pub bytes : Bytes (counter_in cipher rounds file)
  pub text : file ≡ header_text cipher rounds (counter_in cipher rounds file) ++ drop (header_size cipher rounds) file

pub header-first : (cipher rounds : ℕ) (file : List ℕ) → is_header cipher rounds file ≡ true → HeaderFirst cipher rounds file
unfolding is_header counter_in header_text
header-first cipher rounds file e =
    let K = key_lines cipher rounds in
    let t = counter_text cipher rounds file in
    let c = counter_in cipher rounds file in
    let (key, block) = both (starts_with K file) (is_block_line counter_name cipher t) e in
    let first = block-first counter_name cipher t block in
    let text : file ≡ K ++ pairs_line_text counter_name c ++ after_line t =
    starts-split K file key ∙ ap (λ (s : List ℕ). K ++ s) first.text ∙ sym (append_assoc K (pairs_line_text counter_name c) (after_line t)) in
    record {
      block = first.size;
      bytes = first.bytes;
      text = from-after (header_text cipher rounds c) (after_line t) (header_size cipher rounds) text (length-header cipher rounds c first.size);
    }

-- a scan

-- n bytes and a line feed after them
bytes-first : (n : ℕ) (s : List ℕ) → starts_with (10 ∷ []) (drop n s) ≡ true → s ≡ take n s ++ (10 ∷ []) ++ drop (suc n) s
bytes-first n s e =
    let feed : drop n s ≡ 10 ∷ drop 1 (drop n s) = starts-split (10 ∷ []) (drop n s) e in
    let next : drop 1 (drop n s) ≡ drop (suc n) s = drop-drop 1 n s ∙ ap (λ (k : ℕ). drop k s) (add-one n) in
    sym (take-append-drop n s)
    ∙ ap (λ (r : List ℕ). take n s ++ r) (feed ∙ ap (λ (r : List ℕ). 10 ∷ r) next)
    ∙ sym (append_snoc (take n s) 10 (drop (suc n) s))

pub record ScanFirst (number : ℕ) (t : List ℕ) : Type 0 where
  pub small : length (bytes_in number t) ≤ 65536
  pub text : t ≡ scan_text number (bytes_in number t) ++ after_scan number t

pub scan-first : (number : ℕ) (t : List ℕ) → is_scan number t ≡ true → ScanFirst number t
unfolding is_scan bytes_in after_scan scan_text scan_head size_in head_in after_line
scan-first number t e =
    let A = decimal_line_text scan_name number in
    let s = bytes_text number t in
    let n = size_in number t in
    let u = from_bytes number t in
    let (lines, feed) = both (starts_with A t && is_line (is_decimal_line 65536 bytes_name) s) (starts_with (10 ∷ []) (drop n u)) e in
    let (one, two) = both (starts_with A t) (is_line (is_decimal_line 65536 bytes_name) s) lines in
    let first = decimal-first 65536 bytes_name s (omega arith) two in
    let range = first.range in
    let size : length (take n u) ≡ n = bytes-length number t e in
    let after : after_line s ≡ u = drop-drop (suc (line_end s)) (length A) t in
    record {
      small = omega arith;
      text =
          starts-split A t one
          ∙ ap (λ (r : List ℕ). A ++ r) (first.text ∙ ap (λ (r : List ℕ). decimal_line_text bytes_name n ++ r) (after ∙ bytes-first n u feed))
          ∙ rw size (simp append_assoc);
    }

-- scans one after the other

pub record ScansFirst (most n : ℕ) (t : List ℕ) : Type 0 where
  pub few : length (scans_in most n t) ≤ most
  pub small : any_above 65536 (sizes_of (scans_in most n t)) ≡ false
  pub text : t ≡ scans_text n (scans_in most n t) ++ after_scans most n t

pub scans-first : (most n : ℕ) (t : List ℕ) → ScansFirst most n t
unfolding scans_in after_scans scans_text sizes_of any_above
scans-first zero n t = record { few = omega arith; small = refl; text = refl }
scans-first (suc most) n t =
    by-test (is_scan (suc n) t)
    (λ e.
    let first = scan-first (suc n) t e in
    let later = scans-first most (suc n) (after_scan (suc n) t) in
    let few = later.few in
    record {
      few = rw e (omega arith);
      small = rw (e, le-ltb 65536 (length (bytes_in (suc n) t)) first.small) later.small;
      text =
          rw e
          (first.text
          ∙ ap (λ (r : List ℕ). scan_text (suc n) (bytes_in (suc n) t) ++ r) later.text
          ∙ sym (append_assoc (scan_text (suc n) (bytes_in (suc n) t)) _ _));
    })
    (λ e. record { few = rw e (omega arith); small = rw e; text = rw e })

-- the end

pub record IsEnd (cipher n : ℕ) (t : List ℕ) : Type 0 where
  pub size : length (block_in close_name cipher (close_text n t)) ≡ block_size cipher
  pub bytes : Bytes (block_in close_name cipher (close_text n t))
  pub text : t ≡ decimal_line_text scans_name n ++ pairs_line_text close_name (block_in close_name cipher (close_text n t))

pub is-end : (cipher n : ℕ) (t : List ℕ) → is_end cipher n t ≡ true → IsEnd cipher n t
unfolding is_end
is-end cipher n t e =
    let S = decimal_line_text scans_name n in
    let s = close_text n t in
    let (lines, none) = both (starts_with S t && is_block_line close_name cipher s) (empty (after_line s)) e in
    let (number, block) = both (starts_with S t) (is_block_line close_name cipher s) lines in
    let first = block-first close_name cipher s block in
    record {
      size = first.size;
      bytes = first.bytes;
      text =
          starts-split S t number
          ∙ ap (λ (r : List ℕ). S ++ r) first.text
          ∙ rw (nothing (after_line s) (eqb-true _ _ none)) (ap (λ (r : List ℕ). S ++ r) (append-nil _));
    }
