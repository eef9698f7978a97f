-- `write` of `Fox128` meets its contract: the bytes stored are those of the words, in their order.
-- Assumes nothing.
use Rattle.std.proofs.Common.{◌∙◌}
use Rattle.fox_block.specs.Block.{bytes128}
use Rattle.fox_bytes.proofs.Laws.WordBytes.{word_bytes-4}
use Rattle.fox_engine_block.proofs.blocks.Fox128Bytes.write.Goals as goal

pub returns : goal.returns
unfolding bytes128
returns c = let x = c.args.self in c.store_all.ensures ∙ word_bytes-4 x.ll x.lr x.rl x.rr
