-- `wide::Fox128Beside::round_or_four` meets its contract: it is the round of each block, with the same round key, and "or" after it.
-- Assumes nothing.
use mathlib.Core.Path.{ap, ◌∙◌}
use Rattle.fox_rounds.specs.Rounds.{or128}
use Rattle.fox_rounds.specs.Skeleton.{round, between}
use Rattle.fox_rounds.specs.declared.state.State.TheVariants.{Of128}
use Rattle.fox_server_rounds_four.proofs.wide.Fox128Beside.round_or_four.Goals as goal

pub returns-clause-first : goal.returns-clause-first
unfolding round between
returns-clause-first c = ap Of128 (c.or.ensures ∙ ap or128 c.elmid_wide.ensures)

pub returns-clause-second : goal.returns-clause-second
unfolding round between
returns-clause-second c = ap Of128 (c.or-2.ensures ∙ ap or128 c.elmid_wide-2.ensures)

pub returns-clause-third : goal.returns-clause-third
unfolding round between
returns-clause-third c = ap Of128 (c.or-3.ensures ∙ ap or128 c.elmid_wide-3.ensures)

pub returns-clause-fourth : goal.returns-clause-fourth
unfolding round between
returns-clause-fourth c = ap Of128 (c.or-4.ensures ∙ ap or128 c.elmid_wide-4.ensures)
