-- `lines::line_end` meets its contract: the first line feed's place is the library's `position`, by a law on lines.
-- Assumes nothing.
use Rattle.std.proofs.Common.{◌∙◌}
use Rattle.fox_text.proofs.Laws.Lines.{ends, line-end-found}
use Rattle.fox_text_lines.proofs.lines.line_end.Goals as goal

pub returns : goal.returns
returns c = ends (c.unwrap_or.ensures ∙ rw c.line_feed.ensures (line-end-found c.args.t.now))
