-- `io` of `Fox64` meets its contract: the words that "io" acts on are the definition's, and the others stay.
-- Assumes nothing.
use Rattle.fox_rounds.specs.Rounds.{io64}
use Rattle.fox_rounds.proofs.fox64.Fox64Block.io.Goals as goal

pub returns : goal.returns
unfolding io64
returns c = λ i. record { l = c.io.ensures i; r = c.args.self.r }
