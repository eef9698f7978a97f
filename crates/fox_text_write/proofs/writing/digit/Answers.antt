-- `writing::digit` meets its contract, by the definition's cases.
-- Assumes nothing.
use Rattle.std.proofs.Common.{arith, lt-ltb, le-ltb}
use Rattle.fox_text.specs.Hex.{digit}
use Rattle.fox_text_write.proofs.writing.digit.Goals as goal

pub returns-then-n-lt10 : goal.returns-then-n-lt10
unfolding digit
returns-then-n-lt10 c = simp (lt-ltb _ _ c.if-n-lt10.true)

pub returns-else-n-lt10 : goal.returns-else-n-lt10
unfolding digit
returns-else-n-lt10 c = rw (le-ltb _ _ c.if-n-lt10.false) (omega arith)
