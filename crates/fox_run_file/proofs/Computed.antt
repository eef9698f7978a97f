-- The order of the run file's refusals and its limits, computed by the definitions and stated as lists: each pair of neighbouring faults at once, of which the
-- first is given, and the last value that is served beside the first that is not. Where a file is taken up the tag is not computed: `take-up-verdict` says
-- that it decides last.
-- Assumes nothing.
use mathlib.Core.Path.{◌≡◌, refl}
use mathlib.Core.List.{List, [], ◌∷◌, ◌++◌}
use Prim.Native.Nat.{ℕ}
use Prim.Native.String.{String}
use lib.ListN.{replicate}
use Rattle.fox_refusals.specs.Refusals.{refusal_of, block_size, wrong_cipher, wrong_rounds, long_key, short_key, wrong_block_length, for_key, for_turn}
use Rattle.fox_text.specs.Ascii.{codes, ascii, starts_with}
use Rattle.fox_text.specs.Lines.{line_end, after_line}
use Rattle.fox_text.specs.Rules.{is_line}
use Rattle.fox_text.specs.Decimal.{all_digits, onward, begins, in_range, is_decimal, digits_text}
use Rattle.fox_text.specs.Hex.{all_hex, nibble, pairs_of}
use Rattle.fox_text.specs.Fields.{is_decimal_line, is_pairs_line, decimal_in, pairs_in, decimal_line_text}
use Rattle.fox_text.specs.Names.{cipher_name, rounds_name}
use Rattle.fox_run_file.specs.Format.{format_text, counter_name, scan_name, bytes_name, scans_name, close_name, key_lines, scan_head}
use Rattle.fox_run_file.specs.Sizes.{block_line_size, header_size, scan_size, scans_size, unclosed_size, file_size, total, any_above, past_limit}
use Rattle.fox_run_file.specs.Says.{is_block_line, block_in, is_header, counter_in, size_in, head_in, is_scan, bytes_in, after_scan, scans_in, after_scans, is_end}
use Rattle.fox_run_file.specs.Says.{scans_of, before_close, close_in, is_rest}
use Rattle.fox_run_file.specs.Refusals.{large_file, wrong_sizes, small_output, broken_header, broken_rest, for_size, for_write, for_take_up}

-- a file of this header and a text after it is taken up
abbrev taken : List ℕ → String → ℕ
taken rks rest = refusal_of (for_take_up 64 12 32 rks (ascii "format=run\ncipher=64\nrounds=12\ncounter=0000000000000000\n" ++ ascii rest))

pub known-taken-up : (rks : List ℕ) →
    -- 1 before 2 before 3 before 11 before 12, and that before 10, whatever the round keys
    (refusal_of (for_take_up 65 11 32 rks []) ∷ refusal_of (for_take_up 64 256 33 rks []) ∷ refusal_of (for_take_up 64 12 33 rks []) ∷ [])
    ++ (refusal_of (for_take_up 64 12 32 rks []) ∷ taken rks "scans=1\nclose=0000000000000000\n" ∷ [])
    ≡ (1 ∷ 2 ∷ 3 ∷ []) ++ (11 ∷ 12 ∷ [])
unfolding block_size codes ascii starts_with line_end after_line is_line all_digits onward begins in_range is_decimal
    digits_text all_hex nibble pairs_of is_decimal_line is_pairs_line decimal_in pairs_in decimal_line_text cipher_name rounds_name format_text counter_name scan_name
    bytes_name scans_name close_name key_lines block_line_size header_size is_block_line block_in is_header counter_in size_in head_in is_scan bytes_in after_scan scans_in
    after_scans is_end scans_of before_close close_in is_rest refusal_of wrong_cipher wrong_rounds long_key for_key broken_header broken_rest for_take_up
known-taken-up rks = refl

-- 11: a counter block of 7 pairs, a header cut after its third line or in the fourth, other rounds; 12: a header alone
pub known-headers : (rks : List ℕ) →
    (refusal_of (for_take_up 64 12 32 rks (ascii "format=run\ncipher=64\nrounds=12\ncounter=00000000000000\n")) ∷ [])
    ++ (refusal_of (for_take_up 64 12 32 rks (ascii "format=run\ncipher=64\nrounds=12\n")) ∷ [])
    ++ (refusal_of (for_take_up 64 12 32 rks (ascii "format=run\ncipher=64\nrounds=12\ncounter=0000000000000000")) ∷ [])
    ++ (refusal_of (for_take_up 64 13 32 rks (ascii "format=run\ncipher=64\nrounds=12\ncounter=0000000000000000\n")) ∷ [])
    ++ (taken rks "" ∷ [])
    ≡ (11 ∷ 11 ∷ []) ++ (11 ∷ 11 ∷ 12 ∷ [])
unfolding block_size codes ascii starts_with line_end after_line is_line all_digits onward begins in_range is_decimal
    digits_text all_hex nibble pairs_of is_decimal_line is_pairs_line decimal_in pairs_in decimal_line_text cipher_name rounds_name format_text counter_name scan_name
    bytes_name scans_name close_name key_lines block_line_size header_size is_block_line block_in is_header counter_in size_in head_in is_scan bytes_in after_scan scans_in
    after_scans is_end scans_of before_close close_in is_rest refusal_of wrong_cipher wrong_rounds long_key for_key broken_header broken_rest for_take_up
known-headers rks = refl

pub known_written :
    -- 1 before 2 before 3 before 13 before 4 before 12 before 6, and room for the file, of 87 bytes where it has no scan
    (refusal_of (for_write 65 11 32 8 0 [] 0) ∷ refusal_of (for_write 64 256 33 8 0 [] 0) ∷ refusal_of (for_write 64 12 33 7 0 [] 0) ∷ [])
    ++ (refusal_of (for_write 64 11 15 8 0 [] 87) ∷ refusal_of (for_write 64 12 15 7 0 [] 87) ∷ refusal_of (for_write 64 12 0 8 0 [] 87) ∷ [])
    ++ (refusal_of (for_write 64 12 15 8 0 [] 87) ∷ refusal_of (for_write 64 12 16 8 0 [] 87) ∷ [])
    ++ (refusal_of (for_write 64 12 32 7 1 [] 87) ∷ refusal_of (for_write 64 12 32 8 1 [] 86) ∷ refusal_of (for_write 64 12 32 8 0 [] 86) ∷ [])
    ++ (refusal_of (for_write 64 12 32 8 0 [] 87) ∷ refusal_of (for_write 64 12 32 8 0 [] 88) ∷ [])
    -- 12: lengths that do not add up, a scan of 65,537 bytes, 65,536 scans
    ++ (refusal_of (for_write 64 12 32 8 2 (1 ∷ 2 ∷ []) 200) ∷ refusal_of (for_write 64 12 32 8 3 (1 ∷ 2 ∷ []) 200) ∷ [])
    ++ (refusal_of (for_size 65 11 (65537 ∷ [])) ∷ refusal_of (for_size 64 11 (65537 ∷ [])) ∷ refusal_of (for_size 64 12 (65537 ∷ [])) ∷ [])
    ++ (refusal_of (for_size 64 12 (65536 ∷ [])) ∷ refusal_of (for_size 64 12 (replicate 65536 0)) ∷ [])
    ≡ (1 ∷ 2 ∷ 3 ∷ []) ++ (2 ∷ 13 ∷ 13 ∷ []) ++ (13 ∷ 0 ∷ []) ++ (4 ∷ 12 ∷ 6 ∷ []) ++ (0 ∷ 0 ∷ []) ++ (12 ∷ 0 ∷ []) ++ (1 ∷ 2 ∷ 12 ∷ []) ++ (0 ∷ 12 ∷ [])
unfolding block_size codes ascii digits_text decimal_line_text cipher_name rounds_name format_text counter_name scan_name bytes_name scans_name close_name key_lines
    scan_head block_line_size header_size scan_size scans_size unclosed_size file_size total any_above past_limit refusal_of wrong_cipher wrong_rounds long_key
    short_key wrong_block_length for_key for_turn large_file wrong_sizes small_output for_size for_write
known_written = refl
