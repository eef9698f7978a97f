-- `or` of `Fox128` meets its contract: the words that "or" acts on are the definition's, and the others stay.
-- Assumes nothing.
use Rattle.fox_rounds.specs.Rounds.{or128}
use Rattle.fox_rounds.proofs.fox128.Fox128Block.or.Goals as goal

pub returns : goal.returns
unfolding or128
returns c =
    let x = c.args.self in
    λ i. record { ll = c.or.ensures i; lr = x.lr; rl = c.or-2.ensures i; rr = x.rr }
