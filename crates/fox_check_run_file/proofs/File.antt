-- A published run file computed by the definitions: it is the file that is written from its values, it is well-formed, and it says these values.
-- Assumes nothing.
use mathlib.Core.Path.{◌≡◌, refl}
use mathlib.Core.Bool.{true, ◌&&◌}
use mathlib.Core.List.{[], ◌∷◌}
use Rattle.fox_layers.specs.Words.{joined, split, xor_each, xor_over}
use Rattle.fox_layers.specs.Field.{polynomial, rest, product}
use Rattle.fox_layers.specs.Substitution.{S₁, S₂, S₃, halves, whole, or4, lmid4, lmor4, sbox, sigma}
use Rattle.fox_layers.specs.Diffusion.{dot, times, mu4_rows, diffused, mu4}
use Rattle.fox_layers.specs.Lists.{numbered}
use Rattle.fox_rounds.specs.Rounds.{left, right, or, io, f, f32, lmid64, or64, io64}
use Rattle.fox_rounds.specs.Skeleton.{through, round, between, in_order, turned, seal64}
use Rattle.fox_key_mixing.specs.Padding.{pad, padded, mixed, mkey}
use Rattle.fox_key_register.specs.Register.{seed, clocked, iterate, LFSR}
use Rattle.fox_key_mixing.specs.Diversification.{stream, groups, dkey}
use Rattle.fox_key_nonlinear.specs.Nonlinear.{words, mix64, flipped, layers, number64, NL64}
use Rattle.fox_key_schedule.specs.Schedule.{ek64, round_key_at64, round_key64, round_key, round_keys}
use Rattle.fox_refusals.specs.Refusals.{block_size}
use Rattle.fox_block.specs.Block.{state64, bytes64, state, bytes, turn_with}
use Rattle.fox_run.specs.Counter.{counter_block}
use Rattle.fox_run.specs.Run.{streamed, xor_from, key_stream, run_with}
use Rattle.fox_run.specs.Cuts.{each_alone}
use Rattle.fox_tag.specs.Cmac.{reduction, doubled, subkey_of, blocks_before, block_at, whole as whole_message, filled, blocks, keyed_last, chained, cmac}
use Rattle.fox_tag.specs.Tag.{tag_with}
use Rattle.fox_text.specs.Ascii.{codes, ascii, starts_with}
use Rattle.fox_text.specs.Lines.{line_end, after_line}
use Rattle.fox_text.specs.Rules.{is_line}
use Rattle.fox_text.specs.Decimal.{all_digits, onward, begins, in_range, is_decimal, digits_text}
use Rattle.fox_text.specs.Hex.{all_hex, nibble, pairs_of, digit, hex_text}
use Rattle.fox_text.specs.Fields.{is_decimal_line, is_pairs_line, decimal_in, pairs_in, decimal_line_text, pairs_line_text}
use Rattle.fox_text.specs.Names.{cipher_name, rounds_name}
use Rattle.fox_run_file.specs.Format.{format_text, counter_name, scan_name, bytes_name, scans_name, close_name, key_lines, header_text, scan_head, scan_text}
use Rattle.fox_run_file.specs.Format.{scans_text, unclosed, closed_by, file_of, turned_scans, run_file, cut_by}
use Rattle.fox_run_file.specs.Sizes.{block_line_size, header_size}
use Rattle.fox_run_file.specs.Says.{is_block_line, block_in, is_header, counter_in, size_in, head_in, is_scan, bytes_in, after_scan, scans_in, after_scans, is_end}
use Rattle.fox_run_file.specs.Says.{scans_of, before_close, close_in, is_rest}
use Rattle.fox_check_run_file.specs.Example.{key, keys, counter, plain, sizes, file}

pub round-keys : round_keys 64 16 key ≡ keys
unfolding key keys joined split xor_each xor_over polynomial rest product S₁ S₂ S₃ halves whole or4 lmid4 lmor4 sbox sigma dot times mu4_rows diffused mu4
    left right or io f f32 lmid64 or64 io64 numbered through round between in_order turned seal64 pad padded mixed mkey seed clocked iterate LFSR stream
    groups dkey words mix64 flipped layers number64 NL64 ek64 round_key_at64 round_key64 round_key round_keys
round-keys = refl

pub written : run_file 64 16 keys counter (cut_by sizes plain) ≡ file
unfolding keys counter plain sizes file joined split xor_each xor_over polynomial rest product S₁ S₂ S₃ halves whole or4 lmid4 lmor4 sbox sigma dot times
    mu4_rows diffused mu4 left right or io f f32 lmid64 or64 io64 numbered through round between in_order turned seal64 block_size state64 bytes64 state bytes
    turn_with counter_block streamed xor_from key_stream run_with each_alone reduction doubled subkey_of blocks_before block_at whole_message filled blocks keyed_last
    chained cmac tag_with codes ascii digits_text digit hex_text decimal_line_text pairs_line_text cipher_name rounds_name format_text counter_name scan_name bytes_name
    scans_name close_name key_lines header_text scan_head scan_text scans_text unclosed closed_by file_of turned_scans run_file cut_by
written = refl

pub said : counter_in 64 16 file ∷ turned_scans 64 keys (counter_in 64 16 file) (scans_of 64 16 file) ≡ counter ∷ cut_by sizes plain
unfolding keys counter plain sizes file joined split xor_each xor_over polynomial rest product S₁ S₂ S₃ halves whole or4 lmid4 lmor4 sbox sigma dot times
    mu4_rows diffused mu4 left right or io f f32 lmid64 or64 io64 numbered through round between in_order turned seal64 block_size state64 bytes64 state bytes
    turn_with counter_block streamed xor_from key_stream run_with each_alone codes ascii starts_with line_end is_line all_digits onward begins in_range is_decimal
    digits_text all_hex nibble pairs_of is_decimal_line is_pairs_line decimal_in pairs_in decimal_line_text cipher_name rounds_name format_text counter_name scan_name
    bytes_name key_lines turned_scans cut_by block_line_size header_size is_block_line block_in is_header counter_in size_in head_in is_scan bytes_in after_scan scans_in
    scans_of
said = refl

-- header and rest are right, and the tag in the line `close` is the one that `written` has there
pub well-formed : (is_header 64 16 file && is_rest 64 16 file ≡ true) × (close_in 64 file ≡ 0x7D ∷ 0x2A ∷ 0x22 ∷ 0x81 ∷ 0x7B ∷ 0x1E ∷ 0xD0 ∷ 0x1A ∷ [])
unfolding file block_size codes ascii starts_with line_end after_line is_line all_digits onward begins in_range is_decimal digits_text all_hex nibble pairs_of
    is_decimal_line is_pairs_line decimal_in pairs_in decimal_line_text cipher_name rounds_name format_text counter_name scan_name bytes_name scans_name close_name key_lines
    block_line_size header_size is_block_line block_in is_header counter_in size_in head_in is_scan bytes_in after_scan scans_in after_scans is_end scans_of before_close close_in
    is_rest
well-formed = (refl, refl)
