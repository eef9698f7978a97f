-- `write` of `State` meets its contract: for either cipher it writes the bytes of that cipher's block.
-- Assumes nothing.
use Rattle.std.proofs.Common.{sym, ap, ◌∙◌}
use Rattle.fox_rounds.specs.Skeleton.{size}
use Rattle.fox_block.specs.Block.{bytes}
use Rattle.fox_engine_block.proofs.blocks.StateBytes.write.Goals as goal

pub write-requires : goal.write-requires
unfolding size
write-requires c = c.requires ∙ ap size c.in-Of64.is

pub write-requires-in-Of128 : goal.write-requires-in-Of128
unfolding size
write-requires-in-Of128 c = c.requires ∙ ap size c.in-Of128.is

pub returns-in-Of64 : goal.returns-in-Of64
unfolding bytes
returns-in-Of64 c = c.write.ensures ∙ sym (ap bytes c.in-Of64.is)

pub returns-in-Of128 : goal.returns-in-Of128
unfolding bytes
returns-in-Of128 c = c.write-in-Of128.ensures ∙ sym (ap bytes c.in-Of128.is)
