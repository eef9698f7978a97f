-- `fox128::f64` meets its contract: the two words are the halves of the round key; the steps are the definition's.
-- Assumes nothing.
use borrow.Author.Rules.{rules}
use mathlib.Core.Path.{ap, ◌∙◌}
use Prim.Native.Nat.{◌+◌, ◌*◌, ◌^◌}
use Rattle.fox_layers.specs.Diffusion.{mu8}
use Rattle.fox_rounds.specs.Rounds.{f64}
use Rattle.fox_rounds.proofs.Laws.Halves.{left-pair, right-pair}
use Rattle.fox_rounds.proofs.Laws.Rounds.{f-made}
use Rattle.fox_rounds.proofs.fox128.f64.Statement.{statement}
use Rattle.fox_rounds.proofs.fox128.f64.Tie as tie

returns : tie.Need-returns
unfolding f64
returns c =
    let c1 = c.before in
    let c2 = c1.before in
    let c3 = c2.before in
    let k = c3.args.k in
    let l = c3.args.l in
    f-made 8 mu8 c3.args.x (k * 2 ^ 64 + l) (left-pair 64 k l c3.ranges.k.fits c3.ranges.l.fits)
    (right-pair 64 k l c3.ranges.l.fits) (c1.mu8.ensures ∙ ap mu8 c2.sigma8.ensures) c.sigma8-2.ensures

pub f64_spec : {M : Type 1} → statement M
f64_spec = tie.close (tie.spec (λ c κs. search rules) (λ c κs. search rules) (λ c κs. search rules) returns)
