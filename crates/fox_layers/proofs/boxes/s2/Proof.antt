-- `boxes::s2` meets its contract: at each of the sixteen numbers of four bits its circuit gives the bits of the box's entry, which is one computed test.
-- Assumes nothing.
use mathlib.Core.Path.{refl}
use Rattle.fox_layers.specs.Lists.{numbered}
use Rattle.fox_layers.specs.Substitution.{S₂}
use Rattle.fox_layers.proofs.Laws.Bits.{Circuit, ones-spread}
use Rattle.fox_layers.proofs.Laws.Nibbles.{circuit}
use Rattle.fox_layers.proofs.boxes.s2.Statement.{statement}
use Rattle.fox_layers.proofs.boxes.s2.Tie as tie

returns : tie.Need-returns
unfolding S₂ numbered
returns c ns h = simp (h.b3, h.b2, h.b1, h.b0, ones-spread ns h.eight, Circuit) (circuit _ _ _ _ _ ns h refl)

pub s2_spec : {M : Type 1} → statement M
s2_spec = tie.close (tie.spec returns)
