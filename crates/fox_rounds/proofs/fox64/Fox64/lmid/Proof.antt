-- `fox64::Fox64::lmid` meets its contract: both words are XORed with the round function's value.
-- Assumes nothing.
use borrow.Author.Rules.{rules}
use Rattle.fox_layers.specs.Words.{◌⊕◌}
use Rattle.fox_rounds.specs.Rounds.{lmid64}
use Rattle.fox_rounds.proofs.fox64.Fox64.lmid.Statement.{statement}
use Rattle.fox_rounds.proofs.fox64.Fox64.lmid.Tie as tie

returns : tie.Need-returns
unfolding lmid64
returns c =
    let c1 = c.before in
    let c2 = c1.before in
    let x = c2.before.before.args.self in
    λ i. record { l = x.l ⊕ c2.f32-t.ensures i; r = x.r ⊕ c2.f32-t.ensures i }

pub lmid_spec : {M : Type 1} → statement M
lmid_spec = tie.close (tie.spec (λ c κs. search rules) returns)
