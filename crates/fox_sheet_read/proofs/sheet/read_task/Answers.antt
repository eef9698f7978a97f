-- `sheet::read_task` meets its contract: each line is read where the one before it ended.
-- Assumes nothing.
use Rattle.std.proofs.Common.{ap, ◌∙◌, refl, sym}
use Rattle.std.proofs.lemmas.Result.{err_from_is_err_and}
use Rattle.fox_text.specs.Ascii.{codes, ascii}
use Rattle.fox_text.specs.Lines.{after_line, after_lines}
use Rattle.fox_text.specs.Rules.{broken_from}
use Rattle.fox_sheet.specs.Sheet.{block_name, task_tests}
use Rattle.fox_sheet.specs.Reading.{task_of}
use Rattle.fox_sheet.proofs.Laws.{line-wrong, line-right}
use Rattle.fox_sheet_read.proofs.sheet.read_task.Goals as goal

pub returns-in_err-sealing : goal.returns-in_err-sealing
unfolding broken_from task_tests block_name ascii codes after_lines
returns-in_err-sealing c =
    let fifth = c.after_line-fifth.ensures.is in
    let (wrong, number) = line-wrong _ _ 4 c.way_line.ensures c.ok_or.ensures.value c.in_err-sealing.was in
    let p = err_from_is_err_and c.from_residual.result c.from_residual.ensures.1 in
    record { answer = p.1 ∙ rw (p.2, wrong, number) refl; block = rw fifth at c.pairs_line-bytes.ensures.stored }

pub returns-in_err-size : goal.returns-in_err-size
unfolding broken_from task_tests block_name ascii codes after_lines
returns-in_err-size c =
    let fifth = c.after_line-fifth.ensures.is in
    let (first-right, sealing) = line-right _ _ 4 c.way_line.ensures c.ok_or.ensures.value c.in_ok-sealing.was in
    let (wrong, number) = line-wrong _ _ 5 (rw fifth at c.pairs_line-bytes.ensures.number) c.ok_or-2.ensures.value c.in_err-size.was in
    let p = err_from_is_err_and c.from_residual-in_err-size.result c.from_residual-in_err-size.ensures.1 in
    record { answer = p.1 ∙ rw (p.2, first-right, wrong, number) refl; block = rw fifth at c.pairs_line-bytes.ensures.stored }

pub returns-then-not-is_empty : goal.returns-then-not-is_empty
unfolding broken_from task_tests block_name ascii codes after_lines task_of
returns-then-not-is_empty c =
    let fifth = c.after_line-fifth.ensures.is in
    let sixth = c.after_line-sixth.ensures.is ∙ ap after_line fifth in
    let (first-right, sealing) = line-right _ _ 4 c.way_line.ensures c.ok_or.ensures.value c.in_ok-sealing.was in
    let (second-right, size) = line-right _ _ 5 (rw fifth at c.pairs_line-bytes.ensures.number) c.ok_or-2.ensures.value c.in_ok-size.was in
    record { answer = rw (first-right, second-right, ← sixth, sym c.is_empty.ensures ∙ c.if-not-is_empty.true) refl; block = rw fifth at c.pairs_line-bytes.ensures.stored }

pub returns : goal.returns
unfolding broken_from task_tests block_name ascii codes after_lines task_of
returns c =
    let fifth = c.after_line-fifth.ensures.is in
    let sixth = c.after_line-sixth.ensures.is ∙ ap after_line fifth in
    let (first-right, sealing) = line-right _ _ 4 c.way_line.ensures c.ok_or.ensures.value c.in_ok-sealing.was in
    let (second-right, size) = line-right _ _ 5 (rw fifth at c.pairs_line-bytes.ensures.number) c.ok_or-2.ensures.value c.in_ok-size.was in
    record { answer = rw (first-right, second-right, ← sixth, sym c.is_empty.ensures ∙ c.if-not-is_empty.false, sealing, size) refl; block = rw fifth at c.pairs_line-bytes.ensures.stored }
