-- `nl128::state` meets its contract: a word of 64 bits has no bit above its two halves.
-- Assumes nothing.
use Rattle.fox_rounds.specs.Rounds.{right}
use Rattle.fox_rounds.proofs.Laws.Halves.{left-div}
use Rattle.fox_key_nonlinear.specs.Nonlinear.{parts128}
use Rattle.fox_key_nonlinear.proofs.nl128.state.Goals as goal

pub returns : goal.returns
unfolding parts128 right
returns c =
    rw (c.halves.ensures, c.halves-2.ensures) (cc (left-div 32 c.args.a c.ranges.a.fits, left-div 32 c.args.b c.ranges.b.fits))
