-- `wide::Wide128::of` meets its contract: two words of 32 bits side by side are the halves of one of 64.
-- Assumes nothing.
use borrow.Author.Rules.{rules}
use Rattle.fox_server_rounds_four.proofs.Laws.Wide.{narrow-pair}
use Rattle.fox_server_rounds_four.proofs.wide.Wide128.of.Statement.{statement}
use Rattle.fox_server_rounds_four.proofs.wide.Wide128.of.Tie as tie

returns : tie.Need-returns
returns c =
    let c2 = c.before in
    narrow-pair c2.before.args.x (search rules) (search rules) (search rules) (search rules) c2.pair.ensures c.pair-2.ensures

pub of_spec : {M : Type 1} → statement M
of_spec = tie.close (tie.spec (λ c κs. search rules) (λ c κs. search rules) returns)
