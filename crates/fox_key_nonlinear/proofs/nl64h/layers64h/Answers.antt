-- `nl64h::layers64h` meets its contract: the key's words are those that the definition reads, and each goes through the layers as the definition has it.
-- Assumes nothing.
use Rattle.std.proofs.Common.{rules, arith, refl, sym, ap, ◌∙◌}
use mathlib.Core.List.{◌∷◌, []}
use Rattle.fox_layers.specs.Diffusion.{mu4}
use Rattle.fox_key_nonlinear.specs.Nonlinear.{mix64h, layers, in_two}
use Rattle.fox_key_nonlinear.proofs.Laws.KeyWords.{halves-four}
use Rattle.fox_key_nonlinear.proofs.Laws.Layers.{layers-made, in_two-mixed}
use Rattle.fox_key_nonlinear.proofs.nl64h.layers64h.Goals as goal

pub returns : goal.returns
unfolding in_two
returns c =
    let x = c.first_pair.ensures in
    let y = c.first_pair-2.ensures in
    let z = c.first_pair-3.ensures in
    let v = c.first_pair-4.ensures in
    ap in_two c.mixed.ensures
    ∙ in_two-mixed c.args.flip c.first_pair.result c.first_pair-2.result c.first_pair-3.result c.first_pair-4.result
    (search rules) (search rules) (search rules) (search rules)
    ∙ layers-made 4 8 mu4 mix64h c.args.flip _
    (λ i. x.0 i ∷ x.1 i ∷ y.0 i ∷ y.1 i ∷ z.0 i ∷ z.1 i ∷ v.0 i ∷ v.1 i ∷ []) refl
    ∙ ap (layers 4 8 mu4 mix64h c.args.flip)
    (sym (halves-four c.args.d.words (omega arith) (search rules) (search rules) (search rules) (search rules)))
