-- `hex::nibble` meets its contract: a hex digit below 65 is a decimal digit.
-- Assumes nothing.
use Rattle.std.proofs.Common.{arith, lt-ltb, le-ltb}
use Rattle.fox_text.specs.Hex.{nibble}
use Rattle.fox_text_read.proofs.hex.nibble.Goals as goal

pub returns-then-d-lt65 : goal.returns-then-d-lt65
unfolding nibble
returns-then-d-lt65 c = rw (lt-ltb _ _ c.if-d-lt65.true) (omega arith)

pub returns-else-d-lt65 : goal.returns-else-d-lt65
unfolding nibble
returns-else-d-lt65 c = rw (le-ltb _ _ c.if-d-lt65.false) (omega arith)
