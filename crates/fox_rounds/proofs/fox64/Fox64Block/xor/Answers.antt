-- `xor` of `Fox64` meets its contract: word by word.
-- Assumes nothing.
use Rattle.std.proofs.Common.{refl}
use Rattle.fox_rounds.specs.Xor.{xor64}
use Rattle.fox_rounds.proofs.fox64.Fox64Block.xor.Goals as goal

pub returns : goal.returns
unfolding xor64
returns c = refl
