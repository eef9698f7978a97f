-- `nibbles::or4` meets its contract: at each of the sixteen numbers of four bits it gives the bits of "or", which is one computed test.
-- Assumes nothing.
use mathlib.Core.Path.{refl}
use Rattle.fox_layers.specs.Lists.{numbered}
use Rattle.fox_layers.specs.Substitution.{or4}
use Rattle.fox_layers.proofs.Laws.Bits.{Circuit}
use Rattle.fox_layers.proofs.Laws.Nibbles.{circuit}
use Rattle.fox_layers.proofs.nibbles.or4.Statement.{statement}
use Rattle.fox_layers.proofs.nibbles.or4.Tie as tie

returns : tie.Need-returns
unfolding or4 numbered
returns c ns h = simp (h.b3, h.b2, h.b1, h.b0, Circuit) (circuit _ _ _ _ _ ns h refl)

pub or4_spec : {M : Type 1} → statement M
or4_spec = tie.close (tie.spec returns)
