-- `or` of `Fox64` meets its contract: the words that "or" acts on are the definition's, and the others stay.
-- Assumes nothing.
use Rattle.fox_rounds.specs.Rounds.{or64}
use Rattle.fox_rounds.proofs.fox64.Fox64Block.or.Goals as goal

pub returns : goal.returns
unfolding or64
returns c = λ i. record { l = c.or.ensures i; r = c.args.self.r }
