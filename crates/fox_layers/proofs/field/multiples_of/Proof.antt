-- `field::multiples_of` meets its contract: what it doubles, halves and XORs are the products, by a law that was computed over all bytes.
-- Assumes nothing.
use mathlib.Core.Path.{sym, ap, ap₂, ◌∙◌}
use Prim.Native.Nat.{ℕ}
use Rattle.fox_layers.specs.Words.{◌⊕◌}
use Rattle.fox_layers.specs.Field.{double, halve}
use Rattle.fox_layers.proofs.Laws.Field.{products}
use Rattle.fox_layers.proofs.field.multiples_of.Statement.{statement}
use Rattle.fox_layers.proofs.field.multiples_of.Tie as tie

returns : tie.Need-returns
returns c =
    let halved = c.before.before in
    let doubled = halved.before in
    let s = doubled.before in
    let x = s.args.x in
    let p = products x s.ranges.x.fits in
    let m02 = doubled.double-m02.ensures in
    let mfc = halved.halve-mfc.ensures in
    let m7e = c.halve-m7e.ensures ∙ ap halve mfc in
    record {
      by02 = m02 ∙ sym p.by02;
      by03 = ap (λ (m : ℕ). m ⊕ x) m02 ∙ sym p.by03;
      by04 = c.before.double-m04.ensures ∙ ap double m02 ∙ sym p.by04;
      by7e = m7e ∙ sym p.by_7e;
      by82 = ap₂ (λ (m n : ℕ). m ⊕ n) mfc m7e ∙ sym p.by82;
      byfc = mfc ∙ sym p.by_fc;
    }

pub multiples_of_spec : {M : Type 1} → statement M
multiples_of_spec = tie.close (tie.spec (λ c κs. tt) (λ c κs. tt) (λ c κs. tt) (λ c κs. tt) returns)
