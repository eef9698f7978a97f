-- Sheets whose block is served, and what the bench program prints for them, computed by the definitions: 01's own sheet, its answer opened again, and a block
-- opened with an empty key.
-- Assumes nothing.
use mathlib.Core.Path.{refl}
use Rattle.fox_layers.specs.Words.{joined, split, xor_each, xor_over}
use Rattle.fox_layers.specs.Field.{polynomial, rest, product}
use Rattle.fox_layers.specs.Substitution.{S₁, S₂, S₃, halves, whole, or4, lmid4, lmor4, sbox, sigma}
use Rattle.fox_layers.specs.Diffusion.{dot, times, mu4_rows, diffused, mu4}
use Rattle.fox_rounds.specs.Rounds.{left, right, or, io, f, f32, lmid64, or64, io64}
use Rattle.fox_layers.specs.Lists.{numbered}
use Rattle.fox_rounds.specs.Skeleton.{through, round, between, in_order, turned as turned_state, seal64}
use Rattle.fox_key_mixing.specs.Padding.{pad, padded, mixed, mkey}
use Rattle.fox_key_register.specs.Register.{seed, clocked, iterate, LFSR}
use Rattle.fox_key_mixing.specs.Diversification.{stream, groups, dkey}
use Rattle.fox_key_nonlinear.specs.Nonlinear.{words, mix64, flipped, layers, number64, NL64}
use Rattle.fox_key_schedule.specs.Schedule.{ek64, round_key_at64, round_key64, round_key, round_keys}
use Rattle.fox_refusals.specs.Refusals.{refusal_of, block_size, wrong_cipher, wrong_rounds, long_key, short_key, wrong_block_length, wrong_output_length}
use Rattle.fox_refusals.specs.Refusals.{for_key, for_turn, for_block}
use Rattle.fox_block.specs.Block.{state64, bytes64, state, bytes, turn_with}
use Rattle.fox_text.specs.Ascii.{codes, ascii, starts_with}
use Rattle.fox_text.specs.Lines.{line_end, after_line, lines}
use Rattle.fox_text.specs.Rules.{is_line, broken_from}
use Rattle.fox_text.specs.Decimal.{all_digits, onward, begins, in_range, is_decimal, digits_text}
use Rattle.fox_text.specs.Hex.{all_hex, nibble, pairs_of, digit, hex_text}
use Rattle.fox_text.specs.Fields.{is_decimal_line, is_pairs_line, decimal_in, pairs_in, decimal_line_text, pairs_line_text}
use Rattle.fox_text.specs.Names.{cipher_name, rounds_name}
use Rattle.fox_sheet.specs.Sheet.{key_name, seal_way, open_way, block_name, is_way_line, setting_tests, task_tests, broken_line, said, values_of}
use Rattle.fox_sheet.specs.Answer.{refusal_name, line_name, keybits_name, broken_text, served_text, refusal, block_text, answer_of}
use Rattle.fox_sheet.specs.Examples.{Printed}
use Rattle.fox_check_sheet.specs.Examples.{served}

pub served-printed : Printed served
unfolding served joined split xor_each xor_over polynomial rest product S₁ S₂ S₃ halves whole or4 lmid4 lmor4 sbox sigma dot times mu4_rows diffused
    mu4 left right or io f f32 lmid64 or64 io64 numbered through round between in_order turned_state seal64 pad padded mixed mkey seed clocked iterate
    LFSR stream groups
    dkey words mix64 flipped layers number64 NL64 ek64 round_key_at64 round_key64 refusal_of block_size wrong_cipher wrong_rounds long_key short_key wrong_block_length
    wrong_output_length for_key for_turn for_block state64 bytes64 state bytes turn_with round_key round_keys codes ascii starts_with line_end after_line lines
    is_line broken_from all_digits onward begins in_range is_decimal digits_text all_hex nibble pairs_of digit hex_text is_decimal_line is_pairs_line
    decimal_in pairs_in decimal_line_text pairs_line_text cipher_name rounds_name key_name seal_way open_way block_name is_way_line setting_tests task_tests
    broken_line said values_of refusal_name line_name keybits_name broken_text served_text refusal block_text answer_of
served-printed = refl
