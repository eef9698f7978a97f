-- `lines::number_line` meets its contract: the line is written, and compared with the text's first bytes.
-- Assumes nothing.
use native.Mathlib.Omega.{arith}
use borrow.Author.Rules.{rules}
use Rattle.fox_text.proofs.Laws.Stores.{put-stored}
use Rattle.fox_run_file.proofs.Laws.Lines.{compared, line-told}
use Rattle.fox_run_file_lines.proofs.lines.number_line.Goals as goal

pub slice_bounds-starts_with-end : goal.slice_bounds-starts_with-end
slice_bounds-starts_with-end c = (put-stored c.put_decimal_line-n.ensures (search rules)).counts

pub returns : goal.returns
returns c =
    rw c.then_some.ensures
    (line-told _ _ _ (compared _ c.put_decimal_line-n.ensures (search rules) c.starts_with.ensures) (omega (arith, c.put_decimal_line-n.ensures.place)))
