-- What a run file says: its header, whole scans one after the other, and what comes after the last.
-- Assumes nothing.
use Rattle.std.specs.Prelude.{ℕ, zero, suc, ◌+◌, ◌-◌, Bool, cond, ◌&&◌, List, [], ◌∷◌, eqb, leb, length, take, drop}
use Rattle.fox_refusals.specs.Refusals.{block_size}
use Rattle.fox_text.specs.Ascii.{empty, starts_with}
use Rattle.fox_text.specs.Lines.{line, line_end, after_line}
use Rattle.fox_text.specs.Rules.{is_line}
use Rattle.fox_text.specs.Fields.{is_decimal_line, is_pairs_line, decimal_in, pairs_in, decimal_line_text}
use Rattle.fox_run_file.specs.Format.{counter_name, scan_name, bytes_name, scans_name, close_name, key_lines}
use Rattle.fox_run_file.specs.Sizes.{header_size, block_line_size}

-- whether a text begins with a line of a name and exactly one block in hex digits; this block
unfoldable pub is_block_line : List ℕ → ℕ → List ℕ → Bool
is_block_line name cipher t = is_line (is_pairs_line (block_size cipher) name) t && eqb (length (pairs_in (block_size cipher) name (line t))) (block_size cipher)

unfoldable pub block_in : List ℕ → ℕ → List ℕ → List ℕ
block_in name cipher t = pairs_in (block_size cipher) name (line t)

-- the header: whether a file begins with one of this cipher and these rounds; its counter block
abbrev pub counter_text : ℕ → ℕ → List ℕ → List ℕ
counter_text cipher rounds file = drop (length (key_lines cipher rounds)) file

unfoldable pub is_header : ℕ → ℕ → List ℕ → Bool
is_header cipher rounds file = starts_with (key_lines cipher rounds) file && is_block_line counter_name cipher (counter_text cipher rounds file)

unfoldable pub counter_in : ℕ → ℕ → List ℕ → List ℕ
counter_in cipher rounds file = block_in counter_name cipher (counter_text cipher rounds file)

-- a scan with a given number at the start of a text: from its second line on, how many bytes it is to have, how many bytes come before them, and the text
-- from them on
abbrev pub bytes_text : ℕ → List ℕ → List ℕ
bytes_text number t = drop (length (decimal_line_text scan_name number)) t

unfoldable pub size_in : ℕ → List ℕ → ℕ
size_in number t = decimal_in 65536 bytes_name (line (bytes_text number t))

unfoldable pub head_in : ℕ → List ℕ → ℕ
head_in number t = length (decimal_line_text scan_name number) + suc (line_end (bytes_text number t))

abbrev pub from_bytes : ℕ → List ℕ → List ℕ
from_bytes number t = drop (head_in number t) t

-- whether it is whole: its two lines, as many bytes as they say, and a line feed
unfoldable pub is_scan : ℕ → List ℕ → Bool
is_scan number t =
    starts_with (decimal_line_text scan_name number) t && is_line (is_decimal_line 65536 bytes_name) (bytes_text number t)
    && starts_with (10 ∷ []) (drop (size_in number t) (from_bytes number t))

unfoldable pub bytes_in : ℕ → List ℕ → List ℕ
bytes_in number t = take (size_in number t) (from_bytes number t)

unfoldable pub after_scan : ℕ → List ℕ → List ℕ
after_scan number t = drop (suc (size_in number t)) (from_bytes number t)

-- the whole scans at the start of a text, at most so many of them, where n scans come before; and what comes after the last
unfoldable pub scans_in : ℕ → ℕ → List ℕ → List (List ℕ)
scans_in zero n t = []
scans_in (suc most) n t = cond (is_scan (suc n) t) (bytes_in (suc n) t ∷ scans_in most (suc n) (after_scan (suc n) t)) []

unfoldable pub after_scans : ℕ → ℕ → List ℕ → List ℕ
after_scans zero n t = t
after_scans (suc most) n t = cond (is_scan (suc n) t) (after_scans most (suc n) (after_scan (suc n) t)) t

-- the end of a file of n scans: their number, a tag, and nothing after it
abbrev pub close_text : ℕ → List ℕ → List ℕ
close_text n t = drop (length (decimal_line_text scans_name n)) t

unfoldable pub is_end : ℕ → ℕ → List ℕ → Bool
is_end cipher n t =
    starts_with (decimal_line_text scans_name n) t && is_block_line close_name cipher (close_text n t) && empty (after_line (close_text n t))

-- the scans of a file, sealed
abbrev pub scans_from : ℕ → ℕ → List ℕ → List ℕ
scans_from cipher rounds file = drop (header_size cipher rounds) file

unfoldable pub scans_of : ℕ → ℕ → List ℕ → List (List ℕ)
scans_of cipher rounds file = scans_in 65535 0 (scans_from cipher rounds file)

-- all that comes before the line `close`, and the tag in that line
unfoldable pub before_close : ℕ → List ℕ → List ℕ
before_close cipher file = take (length file - block_line_size close_name cipher) file

unfoldable pub close_in : ℕ → List ℕ → List ℕ
close_in cipher file = block_in close_name cipher (drop (length file - block_line_size close_name cipher) file)

-- whether what comes after the header is right: whole scans, at most 65,535 of them, the end, and at most 1,073,741,824 bytes before the line `close`
unfoldable pub is_rest : ℕ → ℕ → List ℕ → Bool
is_rest cipher rounds file =
    is_end cipher (length (scans_of cipher rounds file)) (after_scans 65535 0 (scans_from cipher rounds file))
    && leb (length (before_close cipher file)) 1073741824
