-- `diversification::word_1331` meets its contract: the word is the number that the four parts of the list join to.
-- Assumes nothing.
use Rattle.fox_key_mixing.proofs.Laws.Stream.{word-1331}
use Rattle.fox_key_mixing.proofs.diversification.word_1331.Goals as goal

pub returns : goal.returns
returns c = cc (word-1331 c.from-x.result c.from-y.result c.from-z.result c.from-t.result c.from-y.ensures.1 c.from-z.ensures.1 c.from-t.ensures.1, c.from-x.ensures.0, c.from-y.ensures.0, c.from-z.ensures.0, c.from-t.ensures.0)
