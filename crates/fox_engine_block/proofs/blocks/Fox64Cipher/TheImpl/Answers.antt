-- What `Fox64` asks and promises of a block that it reads is what the trait `Cipher` does, of the cipher 64.
-- Assumes nothing.
use Rattle.std.proofs.Common.{rules}
use Rattle.fox_refusals.specs.Refusals.{block_size}
use Rattle.fox_block.specs.Block.{state}
use Rattle.fox_engine_block.proofs.blocks.Fox64Cipher.TheImpl.Goals as goal

pub read-asks : goal.read-asks
unfolding block_size
read-asks c = search rules

pub read-tells : goal.read-tells
unfolding state
read-tells c = search rules
