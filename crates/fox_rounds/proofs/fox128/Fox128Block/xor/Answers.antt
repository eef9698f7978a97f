-- `xor` of `Fox128` meets its contract: word by word.
-- Assumes nothing.
use Rattle.std.proofs.Common.{refl}
use Rattle.fox_rounds.specs.Xor.{xor128}
use Rattle.fox_rounds.proofs.fox128.Fox128Block.xor.Goals as goal

pub returns : goal.returns
unfolding xor128
returns c = refl
