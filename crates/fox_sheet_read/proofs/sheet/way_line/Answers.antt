-- `sheet::way_line` meets its contract, since each of its parts meets its own.
-- Assumes nothing.
use Rattle.std.proofs.Common.{◌∙◌, refl, sym}
use Rattle.fox_text.specs.Ascii.{codes, ascii}
use Rattle.fox_text.specs.Rules.{is_line}
use Rattle.fox_sheet.specs.Sheet.{seal_way, open_way, is_way_line}
use Rattle.fox_sheet_read.proofs.sheet.way_line.Goals as goal

pub returns-then-not-has_line : goal.returns-then-not-has_line
unfolding is_line
returns-then-not-has_line c = rw (sym c.has_line.ensures ∙ c.if-not-has_line.true) refl

pub returns-then-same : goal.returns-then-same
unfolding is_line is_way_line seal_way open_way ascii codes
returns-then-same c =
    let first = c.first_line-line.ensures in
    let seals = rw first at (sym c.same.ensures ∙ c.if-same.true) in
    rw (sym c.has_line.ensures ∙ c.if-not-has_line.false, seals) refl

pub returns-then-same-2 : goal.returns-then-same-2
unfolding is_line is_way_line seal_way open_way ascii codes
returns-then-same-2 c =
    let first = c.first_line-line.ensures in
    let seals = rw first at (sym c.same.ensures ∙ c.if-same.false) in
    let opens = rw first at (sym c.same-2.ensures ∙ c.if-same-2.true) in
    rw (sym c.has_line.ensures ∙ c.if-not-has_line.false, seals, opens) refl

pub returns : goal.returns
unfolding is_line is_way_line seal_way open_way ascii codes
returns c =
    let first = c.first_line-line.ensures in
    let seals = rw first at (sym c.same.ensures ∙ c.if-same.false) in
    let opens = rw first at (sym c.same-2.ensures ∙ c.if-same-2.false) in
    rw (sym c.has_line.ensures ∙ c.if-not-has_line.false, seals, opens) refl
