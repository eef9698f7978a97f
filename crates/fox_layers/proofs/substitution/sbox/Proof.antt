-- `substitution::sbox` meets its contract: the lowest byte of a substituted word is its lowest byte substituted.
-- Assumes nothing.
use borrow.Author.Rules.{rules}
use Rattle.fox_layers.proofs.Laws.Tables.{sigma-byte}
use Rattle.fox_layers.proofs.substitution.sbox.Statement.{statement}
use Rattle.fox_layers.proofs.substitution.sbox.Tie as tie

returns : tie.Need-returns
returns c = rw c.sigma4.ensures (sigma-byte c.before.args.x c.before.ranges.x.fits)

pub sbox_spec : {M : Type 1} → statement M
sbox_spec = tie.close (tie.spec (λ c κs. tt) (λ c. search rules) returns)
