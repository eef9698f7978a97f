-- `wide::Wide128::or` meets its contract: "or" of both halves of the left word is "or" of the block.
-- Assumes nothing.
use borrow.Author.Rules.{rules}
use Rattle.fox_server_rounds_four.proofs.Laws.Wide.{narrow-or}
use Rattle.fox_server_rounds_four.proofs.wide.Wide128.or.Statement.{statement}
use Rattle.fox_server_rounds_four.proofs.wide.Wide128.or.Tie as tie

returns : tie.Need-returns
returns c = narrow-or c.before.args.self (search rules) c.or_halves.ensures

pub or_spec : {M : Type 1} → statement M
or_spec = tie.close (tie.spec (λ c κs. tt) returns)
