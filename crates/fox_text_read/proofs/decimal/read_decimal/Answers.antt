-- `decimal::read_decimal` meets its contract, by how the digits begin.
-- Assumes nothing.
use Rattle.std.proofs.Common.{sym, ◌∙◌}
use Rattle.fox_text.proofs.Laws.Decimals.{begun, not-begun, not_found}
use Rattle.fox_text_read.proofs.decimal.read_decimal.Goals as goal

pub returns-then-begins : goal.returns-then-begins
returns-then-begins c =
    let a = c.args in
    rw (begun a.most a.ds.now (sym c.begins.ensures ∙ c.if-begins.true)) c.digits.ensures

pub returns-else-begins : goal.returns-else-begins
returns-else-begins c = not_found _ (not-begun _ _ (sym c.begins.ensures ∙ c.if-begins.false))
