-- `wide::Fox128Beside::or_beside` meets its contract: it is "or" of the block.
-- Assumes nothing.
use mathlib.Core.Path.{ap}
use Rattle.fox_rounds.specs.Skeleton.{between}
use Rattle.fox_rounds.specs.declared.state.State.TheVariants.{Of128}
use Rattle.fox_server_rounds_four.proofs.wide.Fox128Beside.or_beside.Goals as goal

pub returns : goal.returns
unfolding between
returns c = ap Of128 c.or.ensures
