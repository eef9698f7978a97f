-- Two blocks XORed as states, word by word.
-- Assumes nothing.
use Rattle.fox_layers.specs.Words.{◌⊕◌}
use Rattle.fox_rounds.specs.declared.fox64.Fox64.{Fox64}
use Rattle.fox_rounds.specs.declared.fox128.Fox128.{Fox128}
use Rattle.fox_rounds.specs.declared.state.State.{State}
use Rattle.fox_rounds.specs.declared.state.State.TheVariants.{Of64, Of128}

unfoldable pub xor64 : Fox64 → Fox64 → Fox64
xor64 x y = record { l = x.l ⊕ y.l; r = x.r ⊕ y.r }

unfoldable pub xor128 : Fox128 → Fox128 → Fox128
xor128 x y = record { ll = x.ll ⊕ y.ll; lr = x.lr ⊕ y.lr; rl = x.rl ⊕ y.rl; rr = x.rr ⊕ y.rr }

-- two states of one cipher XORed; states of two ciphers are never XORed, and the first is left as it is
unfoldable pub xor_states : State → State → State
xor_states (Of64 x) (Of64 y) = Of64 (xor64 x y)
xor_states (Of64 x) (Of128 y) = Of64 x
xor_states (Of128 x) (Of64 y) = Of128 x
xor_states (Of128 x) (Of128 y) = Of128 (xor128 x y)
