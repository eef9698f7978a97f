-- `substitution::sigma4` meets its contract: the lowest four bytes of a substituted word are its lowest four bytes substituted.
-- Assumes nothing.
use borrow.Author.Rules.{rules}
use Rattle.fox_layers.proofs.Laws.Tables.{sigma-low}
use Rattle.fox_layers.proofs.substitution.sigma4.Statement.{statement}
use Rattle.fox_layers.proofs.substitution.sigma4.Tie as tie

returns : tie.Need-returns
returns c = rw c.sigma8.ensures (sigma-low c.before.args.w)

pub sigma4_spec : {M : Type 1} → statement M
sigma4_spec = tie.close (tie.spec (λ c κs. tt) (λ c. search rules) returns)
