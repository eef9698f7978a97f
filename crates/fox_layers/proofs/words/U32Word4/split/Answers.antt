-- `words::U32Word4::split` meets its contract: std's bytes of a word, the highest first, are the definition's.
-- Assumes nothing.
use Rattle.std.proofs.Common.{◌∙◌}
use Rattle.fox_layers.proofs.Laws.StdBytes.{be-split-4}
use Rattle.fox_layers.proofs.words.U32Word4.split.Goals as goal

pub returns : goal.returns
returns c = c.to_be_bytes.ensures ∙ be-split-4 c.args.self
