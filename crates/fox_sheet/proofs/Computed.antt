-- Sheets and what is printed for them, computed by the definitions: sheets with each line in turn malformed as 01 names it, and sheets whose block is
-- refused, where the refusal that comes first is printed. Sheets whose block is served are in `fox_check_sheet`.
-- Assumes nothing.
use mathlib.Core.Path.{refl}
use mathlib.Core.List.{◌++◌}
use Rattle.fox_refusals.specs.Refusals.{refusal_of, block_size, wrong_cipher, wrong_rounds, long_key, short_key, wrong_block_length, wrong_output_length}
use Rattle.fox_refusals.specs.Refusals.{for_key, for_turn, for_block}
use Rattle.fox_text.specs.Ascii.{codes, ascii, starts_with}
use Rattle.fox_text.specs.Lines.{line_end, after_line, lines}
use Rattle.fox_text.specs.Rules.{is_line, broken_from}
use Rattle.fox_text.specs.Decimal.{all_digits, onward, begins, in_range, is_decimal, digits_text}
use Rattle.fox_text.specs.Hex.{all_hex, nibble, pairs_of}
use Rattle.fox_text.specs.Fields.{is_decimal_line, is_pairs_line, decimal_in, pairs_in, decimal_line_text}
use Rattle.fox_text.specs.Names.{cipher_name, rounds_name}
use Rattle.fox_sheet.specs.Sheet.{key_name, seal_way, open_way, block_name, is_way_line, setting_tests, task_tests, broken_line}
use Rattle.fox_sheet.specs.Sheet.{said, values_of}
use Rattle.fox_sheet.specs.Answer.{refusal_name, line_name, broken_text, refusal, block_text, answer_of}
use Rattle.fox_sheet.specs.Examples.{Printed, zeros, broken, refused}

pub printed : Printed (broken ++ refused)
unfolding broken refused zeros refusal_of block_size wrong_cipher wrong_rounds long_key short_key wrong_block_length wrong_output_length for_key for_turn for_block
    codes ascii starts_with line_end
    after_line lines is_line broken_from all_digits onward begins in_range is_decimal digits_text all_hex nibble pairs_of is_decimal_line is_pairs_line
    decimal_in pairs_in decimal_line_text cipher_name rounds_name key_name seal_way open_way block_name is_way_line setting_tests task_tests broken_line
    said values_of refusal_name line_name broken_text refusal block_text answer_of
printed = refl
