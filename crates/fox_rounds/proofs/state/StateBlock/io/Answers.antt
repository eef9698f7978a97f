-- `io` of `State` meets its contract: for either cipher it is that cipher's.
-- Assumes nothing.
use Rattle.std.proofs.Common.{sym, ap, ◌∙◌, false}
use Rattle.fox_rounds.specs.Skeleton.{between}
use Rattle.fox_rounds.specs.declared.state.State.TheVariants.{Of64, Of128}
use Rattle.fox_rounds.proofs.state.StateBlock.io.Goals as goal

pub returns-in-Of64 : goal.returns-in-Of64
unfolding between
returns-in-Of64 c = ap Of64 c.io.ensures ∙ sym (ap (between false) c.in-Of64.is)

pub returns-in-Of128 : goal.returns-in-Of128
unfolding between
returns-in-Of128 c = ap Of128 c.io-in-Of128.ensures ∙ sym (ap (between false) c.in-Of128.is)
