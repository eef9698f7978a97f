-- `lines::put_key_lines` meets its contract: three lines, one after the other.
-- Assumes nothing.
use native.Mathlib.Omega.{arith}
use Rattle.fox_text.specs.Ascii.{codes, ascii}
use Rattle.fox_text.specs.Names.{cipher_name, rounds_name}
use Rattle.fox_text.proofs.Laws.Stores.{then, at-most}
use Rattle.fox_run_file.specs.Format.{format_text, key_lines}
use Rattle.fox_run_file_lines.proofs.lines.put_key_lines.Goals as goal

pub returns : goal.returns
unfolding codes ascii format_text cipher_name rounds_name key_lines
returns c =
    at-most (then (then c.put-a.ensures c.put_decimal_line-b.ensures) c.put_decimal_line.ensures) (omega arith)
