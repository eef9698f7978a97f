-- `words::U64Word8::join` meets its contract: std's number of 8 bytes, the highest first, is the definition's.
-- Assumes nothing.
use Rattle.std.proofs.Common.{◌∙◌, rules}
use Rattle.fox_layers.proofs.Laws.StdBytes.{be-joined-8}
use Rattle.fox_layers.proofs.words.U64Word8.join.Goals as goal

pub returns : goal.returns
returns c = c.from_be_bytes.ensures ∙ be-joined-8 c.args.bytes (search rules)
