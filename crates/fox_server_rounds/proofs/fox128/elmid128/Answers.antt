-- `fox128::elmid128` meets its contract: in the tables that it needs, lookups are the round function's steps, the last of them half by half, and each half is
-- XORed with its two words.
-- Assumes nothing.
use Rattle.std.proofs.Common.{rules}
use mathlib.Core.Path.{sym, ap, ap₂, ◌∙◌}
use Prim.Native.Nat.{ℕ, ◌+◌, ◌*◌, ◌/◌, ◌%◌, ◌^◌, ◌<◌}
use native.Mathlib.Omega.{arith}
use Rattle.fox_layers.specs.Words.{◌⊕◌}
use Rattle.fox_layers.specs.Diffusion.{mu8}
use Rattle.fox_layers.proofs.Laws.Xor.{xor_lt}
use Rattle.fox_rounds.specs.Rounds.{f64, elmid128}
use Rattle.fox_rounds.proofs.Laws.Halves.{left-pair, right-pair}
use Rattle.fox_rounds.proofs.Laws.Rounds.{f-made}
use Rattle.fox_server_rounds.proofs.Laws.Tables.{tables-sigma8, tables-mu8, halves-xored, halves-xor128}
use Rattle.fox_server_rounds.proofs.fox128.elmid128.Goals as goal

pub overflow_cast-m : goal.overflow_cast-m
overflow_cast-m c = omega (arith, xor_lt 64 c.pick8.result c.args.l (search rules) (search rules))

pub returns : goal.returns
unfolding f64 elmid128
returns c =
    let a = c.args in
    let rule = a.tables.now.rule in
    let k = a.k in
    let l = a.l in
    let m = c.pick8.result ⊕ l in
    let p = c.pick4.result in
    let q = c.pick4-2.result in
    let low : p < 2 ^ 32 = search rules in
    let high : q < 2 ^ 32 = search rules in
    let kh : k / 2 ^ 32 < 2 ^ 32 = omega (arith, c.ranges.k.fits) in
    let made = f-made 8 mu8 c.round_input.result (k * 2 ^ 64 + l) (left-pair 64 k l c.ranges.k.fits c.ranges.l.fits)
    (right-pair 64 k l c.ranges.l.fits) (c.pick8.ensures ∙ tables-mu8 rule _)
    (ap₂ (λ (x y : ℕ). x * 2 ^ 32 + y) c.pick4.ensures c.pick4-2.ensures ∙ tables-sigma8 rule m) in
    halves-xor128 (p ⊕ k / 2 ^ 32) (q ⊕ k % 2 ^ 32) _ a.x (xor_lt 32 p (k / 2 ^ 32) low kh) (xor_lt 32 q (k % 2 ^ 32) high (omega arith))
    (sym (ap (λ (x : ℕ). f64 x (k * 2 ^ 64 + l)) c.round_input.ensures) ∙ sym made ∙ halves-xored p q k low high)
