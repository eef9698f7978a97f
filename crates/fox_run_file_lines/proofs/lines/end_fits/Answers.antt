-- `lines::end_fits` meets its contract: the close line begins where the line with the scans' number ends, and nothing comes after it.
-- Assumes nothing.
use mathlib.Core.Path.{sym, ◌∙◌}
use Rattle.fox_text.specs.Ascii.{codes, ascii}
use Rattle.fox_run_file.specs.Format.{scans_name, close_name}
use Rattle.fox_run_file.specs.Says.{is_end}
use Rattle.fox_run_file.proofs.Laws.Lines.{block-small, line-missing, line-there}
use Rattle.fox_run_file_lines.proofs.lines.end_fits.Goals as goal

pub block_line-requires : goal.block_line-requires
block_line-requires c = block-small _

pub returns-in_default : goal.returns-in_default
unfolding is_end codes ascii scans_name
returns-in_default c = rw (line-missing _ _ _ (rw c.in_default.is at c.number_line.ensures))

pub returns-then-block_line : goal.returns-then-block_line
unfolding is_end codes ascii scans_name close_name
returns-then-block_line c =
    let (starts, long) = line-there _ _ _ (rw c.in-Some.is at c.number_line.ensures) in
    rw (starts, ← long, ← c.rest-close.ensures, sym c.block_line.ensures.right ∙ c.if-block_line.true, ← c.after_line.ensures.is)
    c.is_empty.ensures

pub returns-else-block_line : goal.returns-else-block_line
unfolding is_end codes ascii scans_name close_name
returns-else-block_line c =
    let (starts, long) = line-there _ _ _ (rw c.in-Some.is at c.number_line.ensures) in
    rw (starts, ← long, ← c.rest-close.ensures, sym c.block_line.ensures.right ∙ c.if-block_line.false) c.if-block_line.false
