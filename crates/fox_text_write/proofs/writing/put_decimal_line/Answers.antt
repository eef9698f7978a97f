-- `writing::put_decimal_line` meets its contract: name, value and line feed, one after the other.
-- Assumes nothing.
use native.Mathlib.Omega.{arith}
use Rattle.fox_text.specs.Fields.{decimal_line_text}
use Rattle.fox_text.proofs.Laws.Stores.{then, at-most}
use Rattle.fox_text_write.proofs.writing.put_decimal_line.Goals as goal

pub returns : goal.returns
unfolding decimal_line_text
returns c =
    at-most (then (then c.put-a.ensures c.put_digits-b.ensures) c.put.ensures) (omega arith)
