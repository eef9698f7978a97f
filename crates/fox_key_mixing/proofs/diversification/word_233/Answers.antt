-- `diversification::word_233` meets its contract: the word is the number that the three parts of the list join to.
-- Assumes nothing.
use Rattle.fox_key_mixing.proofs.Laws.Stream.{word-233}
use Rattle.fox_key_mixing.proofs.diversification.word_233.Goals as goal

pub returns : goal.returns
returns c = cc (word-233 c.from-x.result c.from-y.result c.from-z.result c.from-y.ensures.1 c.from-z.ensures.1, c.from-x.ensures.0, c.from-y.ensures.0, c.from-z.ensures.0)
