-- `wide::Fox128Beside::round_four` meets its contract: it is the round of each block, with the same round key.
-- Assumes nothing.
use mathlib.Core.Path.{ap}
use Rattle.fox_rounds.specs.Skeleton.{round}
use Rattle.fox_rounds.specs.declared.state.State.TheVariants.{Of128}
use Rattle.fox_server_rounds_four.proofs.wide.Fox128Beside.round_four.Goals as goal

pub returns-clause-first : goal.returns-clause-first
unfolding round
returns-clause-first c = ap Of128 c.elmid_wide.ensures

pub returns-clause-second : goal.returns-clause-second
unfolding round
returns-clause-second c = ap Of128 c.elmid_wide-2.ensures

pub returns-clause-third : goal.returns-clause-third
unfolding round
returns-clause-third c = ap Of128 c.elmid_wide-3.ensures

pub returns-clause-fourth : goal.returns-clause-fourth
unfolding round
returns-clause-fourth c = ap Of128 c.elmid_wide-4.ensures
