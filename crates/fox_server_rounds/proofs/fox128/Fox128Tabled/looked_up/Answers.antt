-- `fox128::Fox128Tabled::looked_up` meets its contract: it is the round of the block.
-- Assumes nothing.
use mathlib.Core.Path.{ap}
use Rattle.fox_rounds.specs.Skeleton.{round}
use Rattle.fox_rounds.specs.declared.state.State.TheVariants.{Of128}
use Rattle.fox_server_rounds.proofs.fox128.Fox128Tabled.looked_up.Goals as goal

pub returns : goal.returns
unfolding round
returns c = ap Of128 c.elmid128.ensures
