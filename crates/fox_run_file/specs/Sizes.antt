-- How long a run file is, from the lengths of its scans alone, and which lengths it can have.
-- Assumes nothing.
use Rattle.std.specs.Prelude.{ℕ, suc, ◌+◌, ◌*◌, Bool, true, false, cond, ◌||◌, List, [], ◌∷◌, ltb, length}
use Rattle.fox_refusals.specs.Refusals.{block_size}
use Rattle.fox_text.specs.Fields.{decimal_line_text}
use Rattle.fox_run_file.specs.Format.{counter_name, scans_name, close_name, key_lines, scan_head}

-- a line of a name and a block in hex digits
unfoldable pub block_line_size : List ℕ → ℕ → ℕ
block_line_size name cipher = length name + suc (2 * block_size cipher)

unfoldable pub header_size : ℕ → ℕ → ℕ
header_size cipher rounds = length (key_lines cipher rounds) + block_line_size counter_name cipher

-- a scan with its two lines and its line feed
unfoldable pub scan_size : ℕ → ℕ → ℕ
scan_size number size = length (scan_head number size) + suc size

unfoldable pub scans_size : ℕ → List ℕ → ℕ
scans_size n [] = 0
scans_size n (size ∷ sizes) = scan_size (suc n) size + scans_size (suc n) sizes

-- all that comes before the line `close`
unfoldable pub unclosed_size : ℕ → ℕ → List ℕ → ℕ
unclosed_size cipher rounds sizes = header_size cipher rounds + scans_size 0 sizes + length (decimal_line_text scans_name (length sizes))

unfoldable pub file_size : ℕ → ℕ → List ℕ → ℕ
file_size cipher rounds sizes = unclosed_size cipher rounds sizes + block_line_size close_name cipher

unfoldable pub total : List ℕ → ℕ
total [] = 0
total (n ∷ ns) = n + total ns

unfoldable pub any_above : ℕ → List ℕ → Bool
any_above limit [] = false
any_above limit (n ∷ ns) = cond (ltb limit n) true (any_above limit ns)

-- more than 65,535 scans, a scan of more than 65,536 bytes, or more than 1,073,741,824 bytes before the line `close`
unfoldable pub past_limit : ℕ → ℕ → List ℕ → Bool
past_limit cipher rounds sizes = ltb 65535 (length sizes) || any_above 65536 sizes || ltb 1073741824 (unclosed_size cipher rounds sizes)
