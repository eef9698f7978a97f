-- `or` of `State` meets its contract: for either cipher it is that cipher's.
-- Assumes nothing.
use Rattle.std.proofs.Common.{sym, ap, ◌∙◌, true}
use Rattle.fox_rounds.specs.Skeleton.{between}
use Rattle.fox_rounds.specs.declared.state.State.TheVariants.{Of64, Of128}
use Rattle.fox_rounds.proofs.state.StateBlock.or.Goals as goal

pub returns-in-Of64 : goal.returns-in-Of64
unfolding between
returns-in-Of64 c = ap Of64 c.or.ensures ∙ sym (ap (between true) c.in-Of64.is)

pub returns-in-Of128 : goal.returns-in-Of128
unfolding between
returns-in-Of128 c = ap Of128 c.or-in-Of128.ensures ∙ sym (ap (between true) c.in-Of128.is)
