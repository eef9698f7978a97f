-- `diffusion::mu8` meets its contract: each XOR has the products of its row of the matrix, by the promises of the field's functions.
-- Assumes nothing.
use Rattle.std.proofs.Common.{◌≡◌, sym, ap, ◌∙◌, subst, ℕ, List, [], ◌∷◌, get_or}
use Rattle.fox_layers.specs.Words.{joined, split, Bytes}
use Rattle.fox_layers.specs.Diffusion.{dot, times, mu8_rows, diffused, mu8}
use Rattle.fox_layers.proofs.Laws.Words.{split-bytes}
use Rattle.fox_layers.proofs.Laws.Field.{ones}
use Rattle.fox_layers.proofs.Laws.Xor.{done, ◌▸◌, running-terms}
use Rattle.fox_layers.proofs.diffusion.mu8.Goals as goal

pub returns : goal.returns
unfolding split dot times mu8_rows diffused mu8
returns c =
    let w = c.args.w in
    let eight : List ℕ → List ℕ = λ l.
    get_or l 0 0 ∷ get_or l 1 0 ∷ get_or l 2 0 ∷ get_or l 3 0 ∷ get_or l 4 0 ∷ get_or l 5 0 ∷ get_or l 6 0 ∷ get_or l 7 0 ∷ [] in
    let xs = eight c.split.result in
    let same : xs ≡ split 8 w = ap eight c.split.ensures in
    let o = ones xs (subst Bytes (sym same) (split-bytes 8 w)) in
    let p0 = c.multiples_of-p0.ensures in
    let p1 = c.multiples_of-p1.ensures in
    let p2 = c.multiples_of-p2.ensures in
    let p3 = c.multiples_of-p3.ensures in
    let p4 = c.multiples_of-p4.ensures in
    let p5 = c.multiples_of-p5.ensures in
    let p6 = c.multiples_of-p6.ensures in
    let p7 = c.multiples_of-p7.ensures in
    let r0 = running-terms (o 0 ▸ o 1 ▸ o 2 ▸ o 3 ▸ o 4 ▸ o 5 ▸ o 6 ▸ p7.by03 ▸ done) in
    let r1 = running-terms (o 0 ▸ p1.by03 ▸ p2.by82 ▸ p3.by02 ▸ p4.by04 ▸ p5.byfc ▸ p6.by7e ▸ o 7 ▸ done) in
    let r2 = running-terms (p0.by03 ▸ p1.by82 ▸ p2.by02 ▸ p3.by04 ▸ p4.byfc ▸ p5.by7e ▸ o 6 ▸ o 7 ▸ done) in
    let r3 = running-terms (p0.by82 ▸ p1.by02 ▸ p2.by04 ▸ p3.byfc ▸ p4.by7e ▸ o 5 ▸ p6.by03 ▸ o 7 ▸ done) in
    let r4 = running-terms (p0.by02 ▸ p1.by04 ▸ p2.byfc ▸ p3.by7e ▸ o 4 ▸ p5.by03 ▸ p6.by82 ▸ o 7 ▸ done) in
    let r5 = running-terms (p0.by04 ▸ p1.byfc ▸ p2.by7e ▸ o 3 ▸ p4.by03 ▸ p5.by82 ▸ p6.by02 ▸ o 7 ▸ done) in
    let r6 = running-terms (p0.byfc ▸ p1.by7e ▸ o 2 ▸ p3.by03 ▸ p4.by82 ▸ p5.by02 ▸ p6.by04 ▸ o 7 ▸ done) in
    let r7 = running-terms (p0.by7e ▸ o 1 ▸ p2.by03 ▸ p3.by82 ▸ p4.by02 ▸ p5.by04 ▸ p6.byfc ▸ o 7 ▸ done) in
    c.join.ensures ∙ ap joined ((λ i. r0 i ∷ r1 i ∷ r2 i ∷ r3 i ∷ r4 i ∷ r5 i ∷ r6 i ∷ r7 i ∷ []) ∙ ap (times mu8_rows) same)
