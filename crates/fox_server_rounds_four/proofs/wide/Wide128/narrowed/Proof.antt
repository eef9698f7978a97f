-- `wide::Wide128::narrowed` meets its contract: the halves of a word of 64 bits are its quotient and its remainder by 2 ^ 32.
-- Assumes nothing.
use borrow.Author.Rules.{rules}
use mathlib.Core.Path.{sym}
use Rattle.fox_rounds.specs.Rounds.{right}
use Rattle.fox_rounds.proofs.Laws.Halves.{left-div}
use Rattle.fox_server_rounds_four.specs.Wide.{narrow}
use Rattle.fox_server_rounds_four.proofs.wide.Wide128.narrowed.Statement.{statement}
use Rattle.fox_server_rounds_four.proofs.wide.Wide128.narrowed.Tie as tie

returns : tie.Need-returns
unfolding narrow right
returns c =
    let x = c.before.before.before.before.args.self in
    let high = sym (left-div 32 x.l (search rules)) in
    let top = sym (left-div 32 x.r (search rules)) in
    λ i. record { ll = high i; lr = top i; rl = right 32 x.l; rr = right 32 x.r }

pub narrowed_spec : {M : Type 1} → statement M
narrowed_spec = tie.close (tie.spec (λ c. search rules) (λ c. search rules) (λ c. search rules) (λ c. search rules) returns)
