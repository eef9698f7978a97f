-- `write` of `Fox64` meets its contract: the bytes stored are those of the words, in their order.
-- Assumes nothing.
use Rattle.std.proofs.Common.{◌∙◌}
use Rattle.fox_block.specs.Block.{bytes64}
use Rattle.fox_bytes.proofs.Laws.WordBytes.{word_bytes-2}
use Rattle.fox_engine_block.proofs.blocks.Fox64Bytes.write.Goals as goal

pub returns : goal.returns
unfolding bytes64
returns c = let x = c.args.self in c.store_all.ensures ∙ word_bytes-2 x.l x.r
