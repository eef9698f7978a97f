-- `register::Register::seed` meets its contract: the byte 0 joined in front changes nothing.
-- Assumes nothing.
use Rattle.std.proofs.Common.{arith}
use Rattle.fox_layers.specs.Words.{joined}
use Rattle.fox_key_register.specs.Register.{seed}
use Rattle.fox_key_register.proofs.register.Register.seed.Goals as goal

pub returns : goal.returns
unfolding seed joined
returns c = omega arith
