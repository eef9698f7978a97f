-- `lines::same` meets its contract: texts are equal byte by byte where the definition says so, by a law on lines.
-- Assumes nothing.
use Rattle.std.proofs.Common.{◌∙◌}
use Rattle.fox_text.proofs.Laws.Lines.{same-text}
use Rattle.fox_text_lines.proofs.lines.same.Goals as goal

pub returns : goal.returns
returns c = c.eq.ensures ∙ same-text c.args.a.now c.args.b.now
