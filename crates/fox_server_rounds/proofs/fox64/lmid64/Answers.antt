-- `fox64::lmid64` meets its contract: both words are XORed with the round function's value, which is computed by lookups.
-- Assumes nothing.
use Rattle.fox_layers.specs.Words.{◌⊕◌}
use Rattle.fox_rounds.specs.Rounds.{lmid64}
use Rattle.fox_server_rounds.proofs.fox64.lmid64.Goals as goal

pub returns : goal.returns
unfolding lmid64
returns c =
    let x = c.args.x in
    λ i. record { l = x.l ⊕ c.f32-u.ensures i; r = x.r ⊕ c.f32-u.ensures i }
