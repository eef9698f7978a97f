-- `fox64::Fox64Tabled::looked_up` meets its contract: a round of FOX64 depends on the lowest 64 bits of a round key alone.
-- Assumes nothing.
use mathlib.Core.Path.{ap, sym, ◌∙◌}
use Rattle.fox_rounds.specs.Skeleton.{round}
use Rattle.fox_rounds.specs.declared.state.State.TheVariants.{Of64}
use Rattle.fox_rounds.proofs.Laws.Rounds.{lmid64-low}
use Rattle.fox_server_rounds.proofs.fox64.Fox64Tabled.looked_up.Goals as goal

pub returns : goal.returns
unfolding round
returns c = ap Of64 (c.lmid64.ensures ∙ sym (lmid64-low c.args._left c.args.right _))
