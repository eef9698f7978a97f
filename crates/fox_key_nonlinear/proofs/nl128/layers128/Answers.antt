-- `nl128::layers128` meets its contract: the key's words are those that the definition reads, and each goes through the layers as the definition has it.
-- Assumes nothing.
use Rattle.std.proofs.Common.{rules, arith, refl, sym, ap, ◌∙◌}
use mathlib.Core.List.{◌∷◌, []}
use Rattle.fox_layers.specs.Diffusion.{mu8}
use Rattle.fox_key_nonlinear.specs.Nonlinear.{mix128, layers}
use Rattle.fox_key_nonlinear.proofs.Laws.KeyWords.{words-four}
use Rattle.fox_key_nonlinear.proofs.Laws.Layers.{layers-made}
use Rattle.fox_key_nonlinear.proofs.nl128.layers128.Goals as goal

pub returns : goal.returns
returns c =
    c.mixed.ensures
    ∙ layers-made 8 4 mu8 mix128 c.args.flip _
    (λ i. c.first8.ensures i ∷ c.first8-2.ensures i ∷ c.first8-3.ensures i ∷ c.first8-4.ensures i ∷ []) refl
    ∙ ap (layers 8 4 mu8 mix128 c.args.flip)
    (sym (words-four c.args.d.words (omega arith) (search rules) (search rules) (search rules) (search rules)))
