-- `layers::second_two` meets its contract: a flipped and substituted word's halves are its halves flipped and substituted.
-- Assumes nothing.
use Rattle.fox_key_nonlinear.proofs.Laws.Layers.{after_pad-pair}
use Rattle.fox_key_nonlinear.proofs.layers.second_two.Goals as goal

pub returns : goal.returns
returns c =
    let a = c.args in
    let parts = after_pad-pair a.flip a.a a.b c.ranges.a.fits c.ranges.b.fits in
    rw (c.halves.ensures, c.second8.ensures, c.pair.ensures) (cc (parts.0, parts.1))
