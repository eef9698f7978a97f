-- `fox64::f32` meets its contract: in the tables that it needs, a TBSM lookup and a TBS lookup are the definition's steps.
-- Assumes nothing.
use mathlib.Core.Path.{refl, ◌∙◌}
use Rattle.fox_layers.specs.Diffusion.{mu4}
use Rattle.fox_rounds.specs.Rounds.{right, f32}
use Rattle.fox_rounds.proofs.Laws.Halves.{left-div}
use Rattle.fox_rounds.proofs.Laws.Rounds.{f-made}
use Rattle.fox_server_rounds.proofs.Laws.Tables.{tables-sigma4, tables-mu4}
use Rattle.fox_server_rounds.proofs.fox64.f32.Goals as goal

pub returns : goal.returns
unfolding f32 right
returns c =
    let rk = c.args.rk in
    let rule = c.args.tables.now.rule in
    f-made 4 mu4 c.args.x rk (left-div 32 rk c.ranges.rk.fits) refl (c.pick4.ensures ∙ tables-mu4 rule _) (c.pick4-2.ensures ∙ tables-sigma4 rule _)
