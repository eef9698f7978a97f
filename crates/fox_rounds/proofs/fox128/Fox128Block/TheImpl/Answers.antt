-- What `Fox128` promises of its round, of "or" and "io" and of XOR is what the trait `Block` asks, of a state of this cipher.
-- Assumes nothing.
use Rattle.std.proofs.Common.{rules}
use Rattle.fox_rounds.specs.Skeleton.{round, between}
use Rattle.fox_rounds.specs.Xor.{xor_states}
use Rattle.fox_rounds.proofs.fox128.Fox128Block.TheImpl.Goals as goal

pub round-tells : goal.round-tells
unfolding round
round-tells c = search rules

pub or-tells : goal.or-tells
unfolding between
or-tells c = search rules

pub io-tells : goal.io-tells
unfolding between
io-tells c = search rules

pub xor-tells : goal.xor-tells
unfolding xor_states
xor-tells c = search rules
