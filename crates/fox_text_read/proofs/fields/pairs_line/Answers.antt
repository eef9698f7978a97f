-- `fields::pairs_line` meets its contract: what `pairs_in` answers counts where the line is ended.
-- Assumes nothing.
use Rattle.std.proofs.Common.{sym, ◌∙◌}
use Rattle.fox_text.proofs.Laws.Fields.{pairs-ended, pairs-open}
use Rattle.fox_text_read.proofs.fields.pairs_line.Goals as goal

pub returns-then-has_line : goal.returns-then-has_line
returns-then-has_line c = pairs-ended c.pairs_in-count.ensures (sym c.has_line.ensures ∙ c.if-has_line.true)

pub returns-else-has_line : goal.returns-else-has_line
returns-else-has_line c = pairs-open c.pairs_in-count.ensures (sym c.has_line.ensures ∙ c.if-has_line.false)
