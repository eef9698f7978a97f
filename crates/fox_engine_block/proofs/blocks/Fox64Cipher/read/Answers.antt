-- `read` of `Fox64` meets its contract: each word is joined from its four bytes.
-- Assumes nothing.
use Rattle.std.proofs.Common.{◌∙◌}
use Rattle.fox_block.specs.Block.{state64}
use Rattle.fox_engine_block.proofs.blocks.Fox64Cipher.read.Goals as goal

pub returns : goal.returns
unfolding state64
returns c =
    λ i. record { l = (c.new.ensures.0 ∙ c.load.ensures.number) i; r = (c.new.ensures.1 ∙ c.load-2.ensures.number) i }
