-- `write::put_unclosed` meets its contract: header, scans and their number, one after the other.
-- Assumes nothing.
use native.Mathlib.Omega.{arith}
use Rattle.fox_text.specs.Ascii.{codes, ascii}
use Rattle.fox_run_file.specs.Format.{counter_name, scans_name}
use Rattle.fox_run_file_write.proofs.Laws.Unclosed.{key-room, counter-room, scans-room, number-room, unclosed-laid}
use Rattle.fox_run_file.proofs.Laws.Lengths.{limits}
use Rattle.fox_run_file_write.proofs.write.put_unclosed.Goals as goal

pub put_key_lines-lines-requires : goal.put_key_lines-lines-requires
put_key_lines-lines-requires c = key-room c.requires

pub put_pairs_line-header-requires : goal.put_pairs_line-header-requires
unfolding counter_name ascii codes
put_pairs_line-header-requires c = omega (arith, counter-room c.requires c.put_key_lines-lines.ensures)

pub put_scans-scans-requires : goal.put_scans-scans-requires
unfolding counter_name ascii codes
put_scans-scans-requires c = scans-room c.requires c.put_key_lines-lines.ensures c.put_pairs_line-header.ensures (omega arith)

pub overflow_cast-sizes : goal.overflow_cast-sizes
overflow_cast-sizes c = record { fits = omega (arith, (limits _ _ _ c.requires.limits).many) }

pub put_decimal_line-requires : goal.put_decimal_line-requires
unfolding counter_name ascii codes
put_decimal_line-requires c =
    omega (arith, number-room c.requires c.put_key_lines-lines.ensures c.put_pairs_line-header.ensures (omega arith) c.put_scans-scans.ensures)

pub returns : goal.returns
unfolding counter_name scans_name ascii codes
returns c =
    unclosed-laid c.requires c.put_key_lines-lines.ensures c.put_pairs_line-header.ensures (omega arith) c.put_scans-scans.ensures (omega arith)
    c.put_decimal_line.ensures
