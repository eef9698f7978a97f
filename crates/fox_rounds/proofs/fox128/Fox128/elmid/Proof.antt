-- `fox128::Fox128::elmid` meets its contract: the round function's input is the two XORs, and its value is XORed into the state as the definition has it.
-- Assumes nothing.
use borrow.Author.Rules.{rules}
use mathlib.Core.Path.{ap, ◌∙◌}
use Prim.Native.Nat.{ℕ, ◌+◌, ◌*◌, ◌^◌}
use Rattle.fox_rounds.specs.Rounds.{f64, xor128, elmid128}
use Rattle.fox_rounds.proofs.fox128.Fox128.elmid.Statement.{statement}
use Rattle.fox_rounds.proofs.fox128.Fox128.elmid.Tie as tie

returns : tie.Need-returns
unfolding elmid128
returns c =
    let c1 = c.before in
    let c2 = c1.before in
    let a = c2.before.args in
    let rk = a.k * 2 ^ 64 + a.l in
    c.xored.ensures
    ∙ ap (λ (t : ℕ). xor128 t a.self) (c1.f64.ensures ∙ ap (λ (s : ℕ). f64 s rk) c2.round_input.ensures)

pub elmid_spec : {M : Type 1} → statement M
elmid_spec = tie.close (tie.spec (λ c κs. search rules) (λ c κs. search rules) (λ c κs. search rules) returns)
