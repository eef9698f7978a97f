-- `register::Register::clocked_back` meets its contract: the test on the register is the definition's, and both branches stay within 24 bits.
-- Assumes nothing.
use Rattle.fox_key_register.proofs.Laws.Register.{clocked_back-even, clocked_back-odd, halved-lt}
use Rattle.fox_key_register.proofs.register.Register.clocked_back.Goals as goal

pub invariant_of-result : goal.invariant_of-result
invariant_of-result c = halved-lt c.self.inside.bits c.self.invariant

pub returns-then-bits-eq0 : goal.returns-then-bits-eq0
returns-then-bits-eq0 c = cc (clocked_back-even c.self.inside.bits c.if-bits-eq0.true, c.self.view_is)

pub returns-else-bits-eq0 : goal.returns-else-bits-eq0
returns-else-bits-eq0 c = cc (clocked_back-odd c.self.inside.bits c.if-bits-eq0.false, c.self.view_is)
