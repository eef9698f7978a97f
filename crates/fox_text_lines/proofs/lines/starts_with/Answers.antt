-- `lines::starts_with` meets its contract: the library's test of a prefix is the definition's, by a law on lines.
-- Assumes nothing.
use Rattle.std.proofs.Common.{◌∙◌}
use Rattle.fox_text.proofs.Laws.Lines.{starts-prefix}
use Rattle.fox_text_lines.proofs.lines.starts_with.Goals as goal

pub returns : goal.returns
returns c = c.starts_with.ensures.value ∙ starts-prefix c.args.name.now c.args.t.now
