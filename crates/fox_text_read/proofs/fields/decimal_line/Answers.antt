-- `fields::decimal_line` meets its contract, since each of its parts meets its own.
-- Assumes nothing.
use Rattle.fox_text.proofs.Laws.Fields.{decimal-line, no-decimal-line}
use Rattle.fox_text_read.proofs.fields.decimal_line.Goals as goal

pub returns-then-has_line-starts_with : goal.returns-then-has_line-starts_with
returns-then-has_line-starts_with c =
    decimal-line (rw (c.has_line.ensures, c.starts_with.ensures, c.first_line.ensures) at c.if-has_line-starts_with.true) c.decimal_in.ensures

pub returns : goal.returns
returns c = no-decimal-line (rw (c.has_line.ensures, c.starts_with.ensures, c.first_line.ensures) at c.if-has_line-starts_with.false)
