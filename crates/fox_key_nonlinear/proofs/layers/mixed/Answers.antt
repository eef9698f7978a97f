-- `layers::mixed` meets its contract: each word goes through the layers as the definition has it, with the pad's words computed.
-- Assumes nothing.
use mathlib.Core.List.{◌∷◌, []}
use Rattle.fox_layers.specs.Words.{xor_each}
use Rattle.fox_key_nonlinear.specs.Nonlinear.{mix64, mix128}
use Rattle.fox_key_nonlinear.proofs.Laws.Layers.{pad-8-4}
use Rattle.fox_key_nonlinear.proofs.layers.mixed.Goals as goal

pub returns : goal.returns
unfolding mix64 mix128 xor_each
returns c = rw pad-8-4 (λ i. c.second8.ensures i ∷ c.second8-2.ensures i ∷ c.second8-3.ensures i ∷ c.second8-4.ensures i ∷ [])
