-- `answer::put_broken` meets its contract: two lines, one after the other.
-- Assumes nothing.
use native.Mathlib.Omega.{arith}
use Rattle.fox_text.specs.Ascii.{codes, ascii}
use Rattle.fox_text.proofs.Laws.Stores.{then, at-most}
use Rattle.fox_sheet.specs.Answer.{refusal_name, line_name, broken_text}
use Rattle.fox_sheet_answer.proofs.answer.put_broken.Goals as goal

pub returns : goal.returns
unfolding codes ascii refusal_name line_name broken_text
returns c =
    at-most (then c.put_decimal_line-at.ensures c.put_decimal_line.ensures) (omega arith)
