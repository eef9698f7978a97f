-- Lengths: of a decimal by its value, of lines, of the header and of a scan; of the scans that are left, one scan further, as a loop goes over them; and what
-- the limits on them tell.
-- Assumes nothing.
use mathlib.Core.Path.{◌≡◌, ap}
use mathlib.Core.Bool.{true, false, cond, ◌||◌, or-true}
use mathlib.Core.List.{List, [], ◌∷◌}
use Prim.Native.Nat.{ℕ, zero, suc, ◌+◌, ◌*◌, ◌/◌, ◌%◌, ◌^◌, ◌≤◌, ◌<◌}
use native.Mathlib.Nat.{one-le-pow}
use native.Mathlib.Numerals.{add-one}
use native.Mathlib.Omega.{arith}
use Rattle.std.specs.Prelude.{Some, None}
use lib.ListN.{length, drop, get_or, length-append, drop_of_length-le}
use lib.Dec.{ltb}
use borrow.Author.Tests.{lt-ltb, le-ltb}
use Rattle.fox_refusals.specs.Refusals.{block_size}
use Rattle.fox_text.specs.Ascii.{codes, ascii}
use Rattle.fox_text.specs.Names.{cipher_name, rounds_name}
use Rattle.fox_text.specs.Decimal.{digits_text, decimal_text}
use Rattle.fox_text.specs.Fields.{decimal_line_text}
use Rattle.fox_text.proofs.Laws.Tests.{by-test}
use Rattle.fox_text.proofs.Laws.Lines.{from-here}
use Rattle.fox_run_file.specs.Format.{format_text, counter_name, scan_name, bytes_name, scans_name, close_name, key_lines, scan_head}
use Rattle.fox_run_file.specs.Sizes.{block_line_size, header_size, scan_size, scans_size, unclosed_size, file_size, total, any_above, past_limit}
use Rattle.fox_run_file.specs.Parts.{sizes_in, Sized}
use Rattle.fox_run_file.specs.declared.sizes.Sizes.{Sizes}
use Rattle.fox_run_file.proofs.Laws.Lines.{block-small}

-- digits

pub one-digit : (k n : ℕ) → n < 10 → length (digits_text (suc k) n) ≡ 1
unfolding digits_text
one-digit k n h = rw (lt-ltb n 10 h)

one_digit_more : (k n : ℕ) → 10 ≤ n → length (digits_text (suc k) n) ≡ suc (length (digits_text k (n / 10)))
unfolding digits_text
one_digit_more k n h = rw (le-ltb n 10 h) (omega (arith, length-append (digits_text k (n / 10)) ((48 + n % 10) ∷ [])))

-- a number from 10 ^ j on and below the next power has j + 1 digits
pub digits-by-power : (j k n : ℕ) → j < k → 10 ^ j ≤ n → n < 10 ^ suc j → length (digits_text k n) ≡ suc j
digits-by-power j zero n h low high = absurd (omega arith)
digits-by-power zero (suc k) n h low high = one-digit k n high
digits-by-power (suc j) (suc k) n h low high =
    let some : 1 ≤ 10 ^ j = one-le-pow j 10 (omega arith) in
    rw (one_digit_more k n (omega arith)) (ap suc (digits-by-power j k (n / 10) (omega arith) (omega arith) (omega arith)))

digits-few : (k n : ℕ) → length (digits_text k n) ≤ k
unfolding digits_text
digits-few zero n = omega arith
digits-few (suc k) n =
    by-test (ltb n 10) (λ e. rw e (omega arith))
    (λ e. rw e (omega (arith, digits-few k (n / 10), length-append (digits_text k (n / 10)) ((48 + n % 10) ∷ []))))

-- lines

pub decimal-line-size : (name : List ℕ) (n : ℕ) → length (decimal_line_text name n) ≡ length name + suc (length (decimal_text n))
unfolding decimal_line_text
decimal-line-size name n = simp length-append (omega arith)

pub close-line-size : (cipher : ℕ) → block_line_size close_name cipher ≡ 7 + 2 * block_size cipher
unfolding block_line_size close_name ascii codes
close-line-size cipher = omega arith

pub header-line-sizes : (cipher rounds : ℕ)
    → header_size cipher rounds ≡ 36 + length (decimal_text cipher) + length (decimal_text rounds) + 2 * block_size cipher
unfolding header_size key_lines block_line_size format_text cipher_name rounds_name counter_name ascii codes
header-line-sizes cipher rounds = simp (length-append, decimal-line-size) (omega arith)

pub scan-line-sizes : (number size : ℕ) → scan_size number size ≡ 14 + length (decimal_text number) + length (decimal_text size) + size
unfolding scan_size scan_head scan_name bytes_name ascii codes
scan-line-sizes number size = simp (length-append, decimal-line-size) (omega arith)

pub scans-line-size : (number : ℕ) → length (decimal_line_text scans_name number) ≡ 7 + length (decimal_text number)
unfolding scans_name ascii codes
scans-line-size number = omega (arith, decimal-line-size scans_name number)

pub decimal-few : (n : ℕ) → length (decimal_text n) ≤ 5
decimal-few n = digits-few 5 n

pub header-few : (cipher rounds : ℕ) → header_size cipher rounds ≤ 78
header-few cipher rounds = omega (arith, header-line-sizes cipher rounds, decimal-few cipher, decimal-few rounds, block-small cipher)

pub scan-few : (number size : ℕ) → size ≤ 65536 → scan_size number size ≤ 65560
scan-few number size h = omega (arith, scan-line-sizes number size, decimal-few number, decimal-few size)

-- one scan further

module _ (sizes : List ℕ) (i : ℕ) where
  module _ (here : i < length sizes) where
    pub total_here : total (drop i sizes) ≡ get_or sizes i 0 + total (drop (i + 1) sizes)
    unfolding total
    total_here = rw (from-here sizes i here)

    pub scans-here : scans_size i (drop i sizes) ≡ scan_size (i + 1) (get_or sizes i 0) + scans_size (i + 1) (drop (i + 1) sizes)
    unfolding scans_size
    scans-here = rw (from-here sizes i here, add-one i)

    pub above-here : (limit : ℕ) → any_above limit (drop i sizes) ≡ cond (ltb limit (get_or sizes i 0)) true (any_above limit (drop (i + 1) sizes))
    unfolding any_above
    above-here limit = rw (from-here sizes i here)

  module _ (past : length sizes ≤ i) where
    pub total-done : total (drop i sizes) ≡ 0
    unfolding total
    total-done = rw (drop_of_length-le sizes past)

    pub scans-done : scans_size i (drop i sizes) ≡ 0
    unfolding scans_size
    scans-done = rw (drop_of_length-le sizes past)

    pub above-done : (limit : ℕ) → any_above limit (drop i sizes) ≡ false
    unfolding any_above
    above-done limit = rw (drop_of_length-le sizes past)

-- the limits, and what adding up the lengths tells by them

module _ (cipher rounds : ℕ) (sizes : List ℕ) where
  pub many-past : 65535 < length sizes → past_limit cipher rounds sizes ≡ true
  unfolding past_limit
  many-past h = rw (lt-ltb 65535 (length sizes) h)

  pub long-past : any_above 65536 sizes ≡ true → past_limit cipher rounds sizes ≡ true
  unfolding past_limit
  long-past e = rw (e, or-true (ltb 65535 (length sizes)))

  pub large-past : 1073741824 < unclosed_size cipher rounds sizes → past_limit cipher rounds sizes ≡ true
  unfolding past_limit
  large-past h = rw (lt-ltb 1073741824 (unclosed_size cipher rounds sizes) h) (or-true (ltb 65535 (length sizes) || any_above 65536 sizes))

  pub in-limits : length sizes ≤ 65535 → any_above 65536 sizes ≡ false → unclosed_size cipher rounds sizes ≤ 1073741824
      → past_limit cipher rounds sizes ≡ false
  unfolding past_limit
  in-limits few e small = rw (le-ltb 65535 (length sizes) few, e, le-ltb 1073741824 (unclosed_size cipher rounds sizes) small)

  pub sized_past : past_limit cipher rounds sizes ≡ true → Sized cipher rounds sizes None
  sized_past e = record { is = rw e }

  pub sized-in : {t s : ℕ} → past_limit cipher rounds sizes ≡ false → t ≡ total sizes → s ≡ file_size cipher rounds sizes
      → Sized cipher rounds sizes (Some (record { total = t; size = s }))
  sized-in e sum size = record { is = rw (e, sum, size) }

-- and what it has told

module _ {cipher rounds : ℕ} {sizes : List ℕ} where
  pub told-past : Sized cipher rounds sizes None → past_limit cipher rounds sizes ≡ true
  told-past told = by-test (past_limit cipher rounds sizes) (λ e. e) (λ e. let is = rw e at told.is in cc)

  pub told_in : {s : Sizes} → Sized cipher rounds sizes (Some s)
      → (past_limit cipher rounds sizes ≡ false) × (s.total ≡ total sizes) × (s.size ≡ file_size cipher rounds sizes)
  told_in {s} told =
      by-test (past_limit cipher rounds sizes) (λ e. let is = rw e at told.is in cc)
      (λ e.
      let is : Some s ≡ Some (sizes_in cipher rounds sizes) = rw e at told.is in
      let same : s ≡ sizes_in cipher rounds sizes = cc in
      (e, ap (λ (x : Sizes). x.total) same, ap (λ (x : Sizes). x.size) same))
