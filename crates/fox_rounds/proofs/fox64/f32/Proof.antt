-- `fox64::f32` meets its contract: the halves of the round key are its quotient and its remainder by 2 ^ 32; the steps are the definition's.
-- Assumes nothing.
use borrow.Author.Rules.{rules}
use mathlib.Core.Path.{refl, ap, ◌∙◌}
use Rattle.fox_layers.specs.Diffusion.{mu4}
use Rattle.fox_rounds.specs.Rounds.{right, f32}
use Rattle.fox_rounds.proofs.Laws.Halves.{left-div}
use Rattle.fox_rounds.proofs.Laws.Rounds.{f-made}
use Rattle.fox_rounds.proofs.fox64.f32.Statement.{statement}
use Rattle.fox_rounds.proofs.fox64.f32.Tie as tie

returns : tie.Need-returns
unfolding f32 right
returns c =
    let c1 = c.before in
    let c2 = c1.before in
    let c3 = c2.before in
    let rk = c3.args.rk in
    f-made 4 mu4 c3.args.x rk (left-div 32 rk c3.ranges.rk.fits) refl (c1.mu4.ensures ∙ ap mu4 c2.sigma4.ensures)
    c.sigma4-2.ensures

pub f32_spec : {M : Type 1} → statement M
f32_spec = tie.close (tie.spec (λ c. search rules) (λ c. search rules) (λ c κs. search rules) (λ c κs. search rules) (λ c κs. search rules) returns)
