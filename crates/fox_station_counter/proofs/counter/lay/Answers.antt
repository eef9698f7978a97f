-- `counter::lay` meets its contract: the words that it writes are those of the definition, for either cipher.
-- Assumes nothing.
use Rattle.std.proofs.Common.{rules, ◌∙◌}
use Rattle.fox_bytes.proofs.Laws.WordBytes.{word_bytes-2, word_bytes-4}
use Rattle.fox_block.proofs.Laws.Block.{size_64, size-128}
use Rattle.fox_run.proofs.Laws.Numbers.{first-64, first-128}
use Rattle.fox_station_counter.proofs.counter.lay.Goals as goal

pub store_all-requires : goal.store_all-requires
store_all-requires c = (search rules, c.requires ∙ size_64 _ c.if-cipher-eq64.true)

pub store_all-requires-else-cipher-eq64 : goal.store_all-requires-else-cipher-eq64
store_all-requires-else-cipher-eq64 c = (search rules, c.requires ∙ size-128 _ c.if-cipher-eq64.false)

pub returns-then-cipher-eq64 : goal.returns-then-cipher-eq64
returns-then-cipher-eq64 c = c.store_all.ensures ∙ word_bytes-2 c.args.number 0 ∙ first-64 _ _ c.if-cipher-eq64.true

pub returns-else-cipher-eq64 : goal.returns-else-cipher-eq64
returns-else-cipher-eq64 c =
    c.store_all-else-cipher-eq64.ensures ∙ word_bytes-4 0 0 c.args.number 0 ∙ first-128 _ _ c.if-cipher-eq64.false (search rules)
