-- The limits of a run file computed by the definitions, the last value that is served beside the first that is not: how many scans it has, and how many bytes
-- there are before its line `close`.
-- Assumes nothing.
use mathlib.Core.Path.{◌≡◌, refl}
use mathlib.Core.List.{[], ◌∷◌, ◌++◌}
use lib.ListN.{replicate}
use Rattle.fox_refusals.specs.Refusals.{refusal_of, block_size, wrong_cipher, wrong_rounds}
use Rattle.fox_text.specs.Ascii.{codes, ascii}
use Rattle.fox_text.specs.Decimal.{digits_text}
use Rattle.fox_text.specs.Fields.{decimal_line_text}
use Rattle.fox_text.specs.Names.{cipher_name, rounds_name}
use Rattle.fox_run_file.specs.Format.{format_text, counter_name, scan_name, bytes_name, scans_name, close_name, key_lines, scan_head}
use Rattle.fox_run_file.specs.Sizes.{block_line_size, header_size, scan_size, scans_size, unclosed_size, any_above, past_limit}
use Rattle.fox_run_file.specs.Refusals.{large_file, for_size}

pub limits :
    (refusal_of (for_size 64 12 (replicate 65535 0)) ∷ refusal_of (for_size 64 12 (replicate 65536 0)) ∷ [])
    ++ (refusal_of (for_size 64 12 (replicate 16378 65536 ++ (11158 ∷ []))) ∷ refusal_of (for_size 64 12 (replicate 16378 65536 ++ (11159 ∷ []))) ∷ [])
    ≡ (0 ∷ 12 ∷ []) ++ (0 ∷ 12 ∷ [])
unfolding refusal_of block_size wrong_cipher wrong_rounds codes ascii digits_text decimal_line_text cipher_name rounds_name format_text counter_name scan_name bytes_name
    scans_name close_name key_lines scan_head block_line_size header_size scan_size scans_size unclosed_size any_above past_limit large_file for_size
limits = refl
