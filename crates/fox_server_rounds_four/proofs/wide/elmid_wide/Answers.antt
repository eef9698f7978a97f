-- `wide::elmid_wide` meets its contract: in the tables that it needs, lookups are the round function's steps, and its value is XORed with both words.
-- Assumes nothing.
use Rattle.std.proofs.Common.{rules}
use mathlib.Core.Path.{sym, ap, ap₂, ◌∙◌}
use Prim.Native.Nat.{ℕ, ◌+◌, ◌*◌, ◌^◌}
use Rattle.fox_layers.specs.Words.{◌⊕◌}
use Rattle.fox_layers.specs.Diffusion.{mu8}
use Rattle.fox_rounds.specs.Rounds.{f64, xor128, elmid128}
use Rattle.fox_rounds.proofs.Laws.Halves.{left-pair, right-pair}
use Rattle.fox_rounds.proofs.Laws.Rounds.{f-made}
use Rattle.fox_server_rounds.proofs.Laws.Tables.{tables-sigma8, tables-mu8, halves-xored}
use Rattle.fox_server_rounds_four.specs.Wide.{narrow}
use Rattle.fox_server_rounds_four.proofs.Laws.Wide.{input-xor, narrow-xored}
use Rattle.fox_server_rounds_four.proofs.wide.elmid_wide.Goals as goal

pub returns : goal.returns
unfolding f64 elmid128
returns c =
    let a = c.args in
    let rule = a.tables.now.rule in
    let x = a.x in
    let k = a.k in
    let l = a.l in
    let p = c.pick_left.result in
    let q = c.pick_right.result in
    let made = f-made 8 mu8 (x.l ⊕ x.r) (k * 2 ^ 64 + l) (left-pair 64 k l c.ranges.k.fits c.ranges.l.fits)
    (right-pair 64 k l c.ranges.l.fits) (c.pick8.ensures ∙ tables-mu8 rule _)
    (ap₂ (λ (u v : ℕ). u * 2 ^ 32 + v) c.pick_left.ensures c.pick_right.ensures ∙ tables-sigma8 rule _) in
    narrow-xored _ x
    ∙ ap (λ (t : ℕ). xor128 t (narrow x))
    (c.pair-f.ensures ∙ sym (halves-xored p q k (search rules) (search rules)) ∙ made
    ∙ ap (λ (n : ℕ). f64 n (k * 2 ^ 64 + l)) (sym (input-xor x (search rules) (search rules))))
