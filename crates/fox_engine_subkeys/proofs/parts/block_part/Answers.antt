-- `parts::block_part` meets its contract: the part has B bytes and begins where the block does.
-- Assumes nothing.
use Rattle.std.proofs.Common.{ap, ◌∙◌, length}
use Rattle.fox_tag.proofs.Laws.Parts.{length-block_at, block-taken}
use Rattle.fox_engine_subkeys.proofs.parts.block_part.Goals as goal

pub returns : goal.returns
returns c =
    let a = c.args in
    let is = block-taken a.size a.message.now a.i in
    (is, ap length is ∙ length-block_at a.size a.message.now a.i c.requires)
