-- `fox128::Fox128::xored` meets its contract: the halves of a number of 64 bits are its quotient and its remainder by 2 ^ 32.
-- Assumes nothing.
use borrow.Author.Rules.{rules}
use mathlib.Core.Path.{sym}
use Rattle.fox_layers.specs.Words.{◌⊕◌}
use Rattle.fox_rounds.specs.Rounds.{right, xor128}
use Rattle.fox_rounds.proofs.Laws.Halves.{left-div}
use Rattle.fox_rounds.proofs.fox128.Fox128.xored.Statement.{statement}
use Rattle.fox_rounds.proofs.fox128.Fox128.xored.Tie as tie

returns : tie.Need-returns
unfolding xor128 right
returns c =
    let a = c.before.before.before.before in
    let x = a.args.self in
    let high = sym (left-div 32 a.args.t a.ranges.t.fits) in
    let low = right 32 a.args.t in
    λ i. record { ll = x.ll ⊕ high i; lr = x.lr ⊕ high i; rl = x.rl ⊕ low; rr = x.rr ⊕ low }

pub xored_spec : {M : Type 1} → statement M
xored_spec = tie.close (tie.spec (λ c. search rules) (λ c. search rules) returns)
