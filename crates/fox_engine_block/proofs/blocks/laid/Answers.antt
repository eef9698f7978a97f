-- `blocks::laid` meets its contract: a block has at most 16 bytes.
-- Assumes nothing.
use Rattle.std.proofs.Common.{arith}
use Rattle.fox_rounds.proofs.Laws.Blocks.{size-few}
use Rattle.fox_engine_block.proofs.blocks.laid.Goals as goal

pub slice_bounds-block-end : goal.slice_bounds-block-end
slice_bounds-block-end g c = omega (arith, c.size.ensures, size-few (g.B.Block.state c.args.x))
