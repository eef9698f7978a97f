-- `states::zero` meets its contract: for either cipher it is the zero block of that cipher.
-- Assumes nothing.
use Rattle.std.proofs.Common.{◌∙◌}
use Rattle.fox_block.proofs.Laws.Block.{zero-other}
use Rattle.fox_engine_tag.proofs.states.zero.Goals as goal

pub returns-else-cipher-eq64 : goal.returns-else-cipher-eq64
returns-else-cipher-eq64 c = c.zero-else-cipher-eq64.ensures ∙ zero-other c.args.cipher c.if-cipher-eq64.false
