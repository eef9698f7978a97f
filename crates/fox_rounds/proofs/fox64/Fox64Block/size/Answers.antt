-- `size` of `Fox64` meets its contract: it is the definition's block size.
-- Assumes nothing.
use Rattle.std.proofs.Common.{refl}
use Rattle.fox_rounds.specs.Skeleton.{size}
use Rattle.fox_rounds.proofs.fox64.Fox64Block.size.Goals as goal

pub returns : goal.returns
unfolding size
returns c = refl
