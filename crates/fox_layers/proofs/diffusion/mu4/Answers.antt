-- `diffusion::mu4` meets its contract: each XOR has the products of its row of the matrix, by the promises of the field's functions.
-- Assumes nothing.
use Rattle.std.proofs.Common.{◌≡◌, sym, ap, ◌∙◌, subst, ℕ, List, [], ◌∷◌, get_or}
use Rattle.fox_layers.specs.Words.{joined, split, Bytes}
use Rattle.fox_layers.specs.Diffusion.{dot, times, mu4_rows, diffused, mu4}
use Rattle.fox_layers.proofs.Laws.Words.{split-bytes}
use Rattle.fox_layers.proofs.Laws.Field.{ones, twos}
use Rattle.fox_layers.proofs.Laws.Xor.{done, ◌▸◌, running-terms}
use Rattle.fox_layers.proofs.diffusion.mu4.Goals as goal

pub returns : goal.returns
unfolding split dot times mu4_rows diffused mu4
returns c =
    let w = c.args.w in
    let four : List ℕ → List ℕ = λ l. get_or l 0 0 ∷ get_or l 1 0 ∷ get_or l 2 0 ∷ get_or l 3 0 ∷ [] in
    let xs = four c.split.result in
    let same : xs ≡ split 4 w = ap four c.split.ensures in
    let bytes : Bytes xs = subst Bytes (sym same) (split-bytes 4 w) in
    let o = ones xs bytes in
    let d = twos xs bytes in
    let r0 = running-terms (o 0 ▸ o 1 ▸ o 2 ▸ (c.double-d3.ensures ∙ d 3) ▸ done) in
    let r1 = running-terms (o 0 ▸ c.times_fd-z1.ensures ▸ (c.double-d2.ensures ∙ d 2) ▸ o 3 ▸ done) in
    let r2 = running-terms (c.times_fd-z0.ensures ▸ (c.double-d1.ensures ∙ d 1) ▸ o 2 ▸ o 3 ▸ done) in
    let r3 = running-terms ((c.double-d0.ensures ∙ d 0) ▸ o 1 ▸ c.times_fd-z2.ensures ▸ o 3 ▸ done) in
    c.join.ensures ∙ ap joined ((λ i. r0 i ∷ r1 i ∷ r2 i ∷ r3 i ∷ []) ∙ ap (times mu4_rows) same)
