-- `blocks::read` meets its contract: for either cipher it reads that cipher's block.
-- Assumes nothing.
use Rattle.std.proofs.Common.{sym, ap, ◌∙◌}
use Rattle.fox_rounds.specs.declared.state.State.TheVariants.{Of64, Of128}
use Rattle.fox_block.proofs.Laws.Block.{size_64, size-128, state-64, state-128}
use Rattle.fox_engine_block.proofs.blocks.read.Goals as goal

pub read-requires : goal.read-requires
read-requires c = c.requires ∙ size_64 _ c.if-cipher-eq64.true

pub read-requires-else-cipher-eq64 : goal.read-requires-else-cipher-eq64
read-requires-else-cipher-eq64 c = c.requires ∙ size-128 _ c.if-cipher-eq64.false

pub returns-then-cipher-eq64 : goal.returns-then-cipher-eq64
returns-then-cipher-eq64 c = ap Of64 c.read.ensures ∙ sym (state-64 _ _ c.if-cipher-eq64.true)

pub returns-else-cipher-eq64 : goal.returns-else-cipher-eq64
returns-else-cipher-eq64 c = ap Of128 c.read-else-cipher-eq64.ensures ∙ sym (state-128 _ _ c.if-cipher-eq64.false)
