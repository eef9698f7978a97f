-- `last::reduced` meets its contract: its test is the definition's.
-- Assumes nothing.
use borrow.Author.Rules.{rules}
use borrow.Author.Tests.{eq-eqb, ne_eqb}
use Rattle.fox_tag.specs.Cmac.{reduction}
use Rattle.fox_engine_subkeys.proofs.last.reduced.Statement.{statement}
use Rattle.fox_engine_subkeys.proofs.last.reduced.Tie as tie

returns : tie.Need-returns-then-size-eq8
unfolding reduction
returns c = rw (eq-eqb _ _ c.if-size-eq8.true)

returns-2 : tie.Need-returns-else-size-eq8
unfolding reduction
returns-2 c = rw (ne_eqb _ _ c.if-size-eq8.false)

pub reduced_spec : {M : Type 1} → statement M
reduced_spec = tie.close (tie.spec (λ c. search rules) (λ c. search rules) returns returns-2)
