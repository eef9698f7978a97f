-- `words::U32Word4::join` meets its contract: std's number of 4 bytes, the highest first, is the definition's.
-- Assumes nothing.
use Rattle.std.proofs.Common.{◌∙◌, rules}
use Rattle.fox_layers.proofs.Laws.StdBytes.{be-joined-4}
use Rattle.fox_layers.proofs.words.U32Word4.join.Goals as goal

pub returns : goal.returns
returns c = c.from_be_bytes.ensures ∙ be-joined-4 c.args.bytes (search rules)
