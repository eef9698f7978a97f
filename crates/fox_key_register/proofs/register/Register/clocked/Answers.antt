-- `register::Register::clocked` meets its contract: the test on the register is the definition's, and both branches stay within 24 bits.
-- Assumes nothing.
use Rattle.fox_key_register.proofs.Laws.Register.{clocked-below, clocked-above, moved-lt}
use Rattle.fox_key_register.proofs.register.Register.clocked.Goals as goal

pub invariant_of-result : goal.invariant_of-result
invariant_of-result c = moved-lt c.self.inside.bits c.self.invariant

pub returns-then-bits-lt8388608 : goal.returns-then-bits-lt8388608
returns-then-bits-lt8388608 c = cc (clocked-below c.self.inside.bits c.if-bits-lt8388608.true, c.self.view_is)

pub returns-else-bits-lt8388608 : goal.returns-else-bits-lt8388608
returns-else-bits-lt8388608 c = cc (clocked-above c.self.inside.bits c.if-bits-lt8388608.false, c.self.view_is)
