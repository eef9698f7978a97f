-- `order::place` meets its contract: both cases are the definition's.
-- Assumes nothing.
use borrow.Author.Rules.{rules}
use Rattle.fox_rounds.specs.Skeleton.{place}
use Rattle.fox_server_rounds.proofs.order.place.Statement.{statement}
use Rattle.fox_server_rounds.proofs.order.place.Tie as tie

returns : tie.Need-returns-then-sealing
unfolding place
returns c = (rw c.if-sealing.true, search rules)

returns-2 : tie.Need-returns-else-sealing
unfolding place
returns-2 c = (rw c.if-sealing.false, search rules)

pub place_spec : {M : Type 1} → statement M
place_spec = tie.close (tie.spec (λ c. search rules) (λ c. search rules) returns returns-2)
