-- `parts::blocks_before` meets its contract: the subtraction stops at 0, as the definition's does.
-- Assumes nothing.
use Rattle.std.proofs.Common.{ap, ℕ, ◌/◌}
use Rattle.fox_tag.specs.Cmac.{blocks_before}
use Rattle.fox_engine_subkeys.proofs.parts.blocks_before.Goals as goal

pub returns : goal.returns
unfolding blocks_before
returns c = ap (λ (n : ℕ). n / c.args.size) c.saturating_sub.ensures
