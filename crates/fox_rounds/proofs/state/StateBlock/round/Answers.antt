-- `round` of `State` meets its contract: for either cipher it is that cipher's round. A round of FOX64 depends on the lowest 64 bits of a round key alone.
-- Assumes nothing.
use Rattle.std.proofs.Common.{sym, ap, ◌∙◌, ◌+◌, ◌*◌, ◌^◌}
use Rattle.fox_rounds.specs.Skeleton.{round}
use Rattle.fox_rounds.specs.declared.state.State.TheVariants.{Of64, Of128}
use Rattle.fox_rounds.proofs.Laws.Rounds.{lmid64-low}
use Rattle.fox_rounds.proofs.state.StateBlock.round.Goals as goal

pub returns-in-Of64 : goal.returns-in-Of64
unfolding round
returns-in-Of64 c =
    let a = c.args in
    ap Of64 (c.round.ensures ∙ sym (lmid64-low a.left a.right _)) ∙ sym (ap (round (a.left * 2 ^ 64 + a.right)) c.in-Of64.is)

pub returns-in-Of128 : goal.returns-in-Of128
unfolding round
returns-in-Of128 c =
    let a = c.args in
    ap Of128 c.round-in-Of128.ensures ∙ sym (ap (round (a.left * 2 ^ 64 + a.right)) c.in-Of128.is)
