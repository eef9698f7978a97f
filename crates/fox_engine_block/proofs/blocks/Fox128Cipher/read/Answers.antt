-- `read` of `Fox128` meets its contract: each word is joined from its four bytes.
-- Assumes nothing.
use Rattle.std.proofs.Common.{◌∙◌}
use Rattle.fox_block.specs.Block.{state128}
use Rattle.fox_engine_block.proofs.blocks.Fox128Cipher.read.Goals as goal

pub returns : goal.returns
unfolding state128
returns c =
    λ i.
    record {
      ll = (c.new.ensures.0 ∙ c.load.ensures.number) i;
      lr = (c.new.ensures.1 ∙ c.load-2.ensures.number) i;
      rl = (c.new.ensures.2 ∙ c.load-3.ensures.number) i;
      rr = (c.new.ensures.3 ∙ c.load-4.ensures.number) i;
    }
