-- `decimal::begins` meets its contract, by the number of digits.
-- Assumes nothing.
use Rattle.std.proofs.Common.{arith}
use Rattle.fox_text.proofs.Laws.Decimals.{begins-none, begins-one, begins-long}
use Rattle.fox_text_read.proofs.decimal.begins.Goals as goal

pub returns-in-empty : goal.returns-in-empty
returns-in-empty c = begins-none _ (omega arith)

pub returns-in-len1 : goal.returns-in-len1
returns-in-len1 c = begins-one _ (omega arith)

pub returns-in-len1-up : goal.returns-in-len1-up
returns-in-len1-up c = begins-long _ (omega arith)
