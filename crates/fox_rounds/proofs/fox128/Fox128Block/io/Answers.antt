-- `io` of `Fox128` meets its contract: the words that "io" acts on are the definition's, and the others stay.
-- Assumes nothing.
use Rattle.fox_rounds.specs.Rounds.{io128}
use Rattle.fox_rounds.proofs.fox128.Fox128Block.io.Goals as goal

pub returns : goal.returns
unfolding io128
returns c =
    let x = c.args.self in
    λ i. record { ll = c.io.ensures i; lr = x.lr; rl = c.io-2.ensures i; rr = x.rr }
