-- What `Fox128` promises of counting is what the trait `Counter` does, of a state of this cipher.
-- Assumes nothing.
use Rattle.std.proofs.Common.{rules}
use Rattle.fox_run.specs.States.{counted}
use Rattle.fox_engine_counter.proofs.states.Fox128Counter.TheImpl.Goals as goal

pub counted-tells : goal.counted-tells
unfolding counted
counted-tells c = search rules
