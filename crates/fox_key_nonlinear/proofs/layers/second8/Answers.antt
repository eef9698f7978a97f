-- `layers::second8` meets its contract: the flip XORs with ones, as many as the definition has, and the test on `flip` is the definition's.
-- Assumes nothing.
use Rattle.fox_key_nonlinear.specs.Nonlinear.{flipped, after_pad}
use Rattle.fox_key_nonlinear.proofs.layers.second8.Goals as goal

pub returns-then-flip : goal.returns-then-flip
unfolding flipped after_pad
returns-then-flip c = rw (c.sigma8.ensures, c.if-flip.true)

pub returns-else-flip : goal.returns-else-flip
unfolding flipped after_pad
returns-else-flip c = rw (c.sigma8-else-flip.ensures, c.if-flip.false)
