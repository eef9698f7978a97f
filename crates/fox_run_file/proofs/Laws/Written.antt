-- The parts of a run file, read as they are written: a line of a block, a scan, the end, and scans one after the other. A scan's two lines tell where its bytes
-- begin and how many there are, so its bytes may be any; and the line after the last scan is no scan, since `scan=` and `scans=` differ in their fifth byte.
-- Assumes nothing.
use mathlib.Core.Path.{◌≡◌, refl, sym, ◌∙◌}
use mathlib.Core.Bool.{true, false}
use mathlib.Core.List.{List, [], ◌∷◌, ◌++◌, append-nil, append_assoc}
use Prim.Native.Nat.{ℕ, zero, suc, ◌-◌, ◌≤◌}
use native.Mathlib.Omega.{arith}
use lib.ListN.{length, length-append}
use lib.Seq.{take-append_seam, drop-append_seam}
use borrow.Author.Tests.{eq-eqb}
use Rattle.fox_layers.specs.Words.{Bytes}
use Rattle.fox_refusals.specs.Refusals.{block_size}
use Rattle.fox_text.specs.Ascii.{codes, ascii, starts_with}
use Rattle.fox_text.specs.Fields.{decimal_line_text, pairs_line_text}
use Rattle.fox_text.proofs.Laws.Written.{Plain, drop-written}
use Rattle.fox_text.proofs.Laws.Values.{starts-written}
use Rattle.fox_text.proofs.Laws.Texts.{end-decimal-text, right-decimal-text, read-decimal-text, after-pairs-text, right-pairs-text, read-pairs-text}
use Rattle.fox_run_file.specs.Format.{counter_name, scan_name, bytes_name, scans_name, close_name, scan_head, scan_text, scans_text, closed_by}
use Rattle.fox_run_file.specs.Sizes.{block_line_size, any_above}
use Rattle.fox_run_file.specs.Says.{is_block_line, block_in, bytes_text, size_in, head_in, from_bytes, is_scan, bytes_in, after_scan, scans_in, after_scans}
use Rattle.fox_run_file.specs.Says.{is_end, before_close, close_in}
use Rattle.fox_run_file.specs.Values.{sizes_of}
use Rattle.fox_run_file.proofs.Laws.Lengths.{length-block-line, first_small}

-- names have no line feed

pub counter-plain : Plain counter_name
unfolding counter_name codes ascii Plain
counter-plain = (refl, (refl, (refl, (refl, (refl, (refl, (refl, (refl, tt))))))))

pub bytes-plain : Plain bytes_name
unfolding bytes_name codes ascii Plain
bytes-plain = (refl, (refl, (refl, (refl, (refl, (refl, tt))))))

pub close-plain : Plain close_name
unfolding close_name codes ascii Plain
close-plain = (refl, (refl, (refl, (refl, (refl, (refl, tt))))))

-- a line of a name and a block

module _ (name : List ℕ) (cipher : ℕ) (block r : List ℕ) (plain : Plain name) (size : length block ≡ block_size cipher) (bytes : Bytes block) where
  pub block_read : block_in name cipher (pairs_line_text name block ++ r) ≡ block
  unfolding block_in
  block_read = read-pairs-text name block r plain bytes (block_size cipher) (omega arith)

  pub block-right : is_block_line name cipher (pairs_line_text name block ++ r) ≡ true
  unfolding is_block_line block_in
  block-right = rw (right-pairs-text name block r plain bytes (block_size cipher) (omega arith), block_read) (eq-eqb (length block) (block_size cipher) size)

-- a scan

module _ (n : ℕ) (s r : List ℕ) where
  scan-parts : scan_text n s ++ r ≡ scan_head n (length s) ++ (s ++ 10 ∷ r)
  unfolding scan_text
  scan-parts = simp append_assoc

  scan-lines : scan_text n s ++ r ≡ decimal_line_text scan_name n ++ (decimal_line_text bytes_name (length s) ++ (s ++ 10 ∷ r))
  unfolding scan_head
  scan-lines = scan-parts ∙ append_assoc (decimal_line_text scan_name n) (decimal_line_text bytes_name (length s)) (s ++ 10 ∷ r)

  second-line : bytes_text n (scan_text n s ++ r) ≡ decimal_line_text bytes_name (length s) ++ (s ++ 10 ∷ r)
  second-line = rw scan-lines (drop-append_seam (decimal_line_text scan_name n) _)

  pub head_read : head_in n (scan_text n s ++ r) ≡ length (scan_head n (length s))
  unfolding head_in scan_head
  head_read =
      rw (second-line, end-decimal-text bytes_name (length s) (s ++ 10 ∷ r) bytes-plain)
      (sym (length-append (decimal_line_text scan_name n) (decimal_line_text bytes_name (length s))))

  pub from_bytes-scan_text : from_bytes n (scan_text n s ++ r) ≡ s ++ 10 ∷ r
  from_bytes-scan_text = rw (head_read, scan-parts) (drop-append_seam (scan_head n (length s)) _)

  module _ (short : length s ≤ 65536) where
    pub size-read : size_in n (scan_text n s ++ r) ≡ length s
    unfolding size_in
    size-read = rw second-line (read-decimal-text bytes_name (length s) (s ++ 10 ∷ r) bytes-plain 65536 short (omega arith))

    pub scan-right : is_scan n (scan_text n s ++ r) ≡ true
    unfolding is_scan starts_with
    scan-right =
        let line = decimal_line_text scan_name n in
        let starts : starts_with line (scan_text n s ++ r) ≡ true = rw scan-lines (starts-written line _) in
        rw (
          starts,
          second-line,
          right-decimal-text bytes_name (length s) (s ++ 10 ∷ r) bytes-plain 65536 short (omega arith),
          size-read,
          from_bytes-scan_text,
          drop-append_seam s (10 ∷ r),
        )

    pub bytes_read : bytes_in n (scan_text n s ++ r) ≡ s
    unfolding bytes_in
    bytes_read = rw (size-read, from_bytes-scan_text) (take-append_seam s (10 ∷ r))

    pub scan-passed : after_scan n (scan_text n s ++ r) ≡ r
    unfolding after_scan
    scan-passed = rw (size-read, from_bytes-scan_text) (drop-written s 10 r)

-- the line after the last scan is no scan
pub scans-no-scan : (n k : ℕ) (r : List ℕ) → is_scan n (decimal_line_text scans_name k ++ r) ≡ false
unfolding is_scan starts_with decimal_line_text scan_name scans_name codes ascii
scans-no-scan n k r = refl

-- the end

pub end-right : (cipher n : ℕ) (tag : List ℕ) → length tag ≡ block_size cipher → Bytes tag
    → is_end cipher n (decimal_line_text scans_name n ++ pairs_line_text close_name tag) ≡ true
unfolding is_end
end-right cipher n tag size bytes =
    let line = decimal_line_text scans_name n in
    let close = pairs_line_text close_name tag in
    rw (
      starts-written line close,
      drop-append_seam line close,
      ← append-nil close,
      block-right close_name cipher tag [] close-plain size bytes,
      after-pairs-text close_name tag [] close-plain bytes,
    )

-- any text that was closed by a block: its end is found from behind

module _ (cipher : ℕ) (tag text : List ℕ) (size : length tag ≡ block_size cipher) where
  close-place : length (closed_by tag text) - block_line_size close_name cipher ≡ length text
  unfolding closed_by
  close-place = omega (arith, length-append text (pairs_line_text close_name tag), length-block-line close_name cipher tag size)

  pub closed-before : before_close cipher (closed_by tag text) ≡ text
  unfolding before_close closed_by
  closed-before = rw close-place (take-append_seam text (pairs_line_text close_name tag))

  pub closed-tag : Bytes tag → close_in cipher (closed_by tag text) ≡ tag
  unfolding close_in closed_by
  closed-tag bytes =
      let close = pairs_line_text close_name tag in
      rw (close-place, drop-append_seam text close, ← append-nil close) (block_read close_name cipher tag [] close-plain size bytes)

-- scans one after the other are read, and passed, where what comes after them begins with no scan
pub scans-read : (rest : List ℕ) → ((n : ℕ) → is_scan n rest ≡ false) → (most n : ℕ) (ss : List (List ℕ)) → length ss ≤ most
    → any_above 65536 (sizes_of ss) ≡ false → (scans_in most n (scans_text n ss ++ rest) ≡ ss) × (after_scans most n (scans_text n ss ++ rest) ≡ rest)
unfolding scans_in after_scans scans_text sizes_of
scans-read rest none zero n [] few each = (refl, refl)
scans-read rest none (suc most) n [] few each = (rw (none (suc n)), rw (none (suc n)))
scans-read rest none zero n (s ∷ ss) few each = absurd (omega arith)
scans-read rest none (suc most) n (s ∷ ss) few each =
    let (short, small) = first_small 65536 (length s) (sizes_of ss) each in
    let (read, passed) = scans-read rest none most (suc n) ss (omega arith) small in
    let r = scans_text (suc n) ss ++ rest in
    let parts = append_assoc (scan_text (suc n) s) (scans_text (suc n) ss) rest in
    let right = scan-right (suc n) s r short in
    let after = scan-passed (suc n) s r short in
    (rw (parts, right, bytes_read (suc n) s r short, after, read), rw (parts, right, after) passed)
