-- `hex::is_pairs` meets its contract: the tests are the definition's, in its order.
-- Assumes nothing.
use Rattle.std.proofs.Common.{◌∙◌}
use Rattle.fox_text.proofs.Laws.Pairs.{hex-all}
use Rattle.fox_text_read.proofs.hex.is_pairs.Goals as goal

pub returns : goal.returns
returns c = rw (c.all_hex.ensures ∙ hex-all c.args.ds.now)
