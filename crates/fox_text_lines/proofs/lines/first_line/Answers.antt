-- `lines::first_line` meets its contract: it is the text up to where the line ends.
-- Assumes nothing.
use Rattle.fox_text_lines.proofs.lines.first_line.Goals as goal

pub returns : goal.returns
returns c = rw c.line_end-end.ensures.is
