-- What `Fox128` asks and promises of its bytes is what the trait `Bytes` does, of a state of this cipher.
-- Assumes nothing.
use Rattle.std.proofs.Common.{rules}
use Rattle.fox_rounds.specs.Skeleton.{size}
use Rattle.fox_block.specs.Block.{bytes}
use Rattle.fox_engine_block.proofs.blocks.Fox128Bytes.TheImpl.Goals as goal

pub write-asks : goal.write-asks
unfolding size
write-asks c = search rules

pub write-tells : goal.write-tells
unfolding bytes
write-tells c = search rules
