-- `xor` of `State` meets its contract: for two states of one cipher it is that cipher's, and the first of two others is left as it is.
-- Assumes nothing.
use Rattle.std.proofs.Common.{sym, ap, ap₂, ◌∙◌}
use Rattle.fox_rounds.specs.Xor.{xor_states}
use Rattle.fox_rounds.specs.declared.state.State.TheVariants.{Of64, Of128}
use Rattle.fox_rounds.proofs.state.StateBlock.xor.Goals as goal

pub returns-in-Of64-Of64 : goal.returns-in-Of64-Of64
unfolding xor_states
returns-in-Of64-Of64 c =
    ap Of64 c.xor.ensures ∙ sym (ap₂ xor_states c.in-Of64-Of64.is-0 c.in-Of64-Of64.is-1)

pub returns-in-Of128-Of128 : goal.returns-in-Of128-Of128
unfolding xor_states
returns-in-Of128-Of128 c =
    ap Of128 c.xor-in-Of128-Of128.ensures ∙ sym (ap₂ xor_states c.in-Of128-Of128.is-0 c.in-Of128-Of128.is-1)

pub returns-in_default : goal.returns-in_default
unfolding xor_states
returns-in_default c = c.in_default.is-0 ∙ sym (ap₂ xor_states c.in_default.is-0 c.in_default.is-1)

pub returns-in_default-2 : goal.returns-in_default-2
unfolding xor_states
returns-in_default-2 c = c.in_default.is-0 ∙ sym (ap₂ xor_states c.in_default.is-0 c.in_default.is-1)
