-- `counted` of `State` meets its contract: for either cipher it counts as that cipher's block does.
-- Assumes nothing.
use Rattle.std.proofs.Common.{sym, ap, ◌∙◌}
use Rattle.fox_rounds.specs.declared.state.State.{State}
use Rattle.fox_rounds.specs.declared.state.State.TheVariants.{Of64, Of128}
use Rattle.fox_run.specs.States.{counted}
use Rattle.fox_engine_counter.proofs.states.StateCounter.counted.Goals as goal

pub returns-in-Of64 : goal.returns-in-Of64
unfolding counted
returns-in-Of64 c =
    ap Of64 c.counted.ensures ∙ sym (ap (λ (x : State). counted x c.args.i) c.in-Of64.is)

pub returns-in-Of128 : goal.returns-in-Of128
unfolding counted
returns-in-Of128 c =
    ap Of128 c.counted-in-Of128.ensures ∙ sym (ap (λ (x : State). counted x c.args.i) c.in-Of128.is)
