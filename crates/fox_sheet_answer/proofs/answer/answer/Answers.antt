-- `answer::answer` meets its contract: the sheet's first malformed line is that of its settings, or else that of its task, and where both are well-formed the
-- block is answered.
-- Assumes nothing.
use Rattle.std.proofs.Common.{◌≡◌, refl, sym, ap, ◌∙◌, ℕ, List, rules}
use Rattle.fox_text.specs.Lines.{after_line, after_lines, lines}
use Rattle.fox_sheet.specs.Sheet.{said, values_of}
use Rattle.fox_sheet.proofs.Laws.{settings-read, settings-broken, task-read, task-broken, first-broken, same-values, broken-answer, right_answer}
use Rattle.fox_sheet_answer.proofs.answer.answer.Goals as goal

-- the text that follows the settings
from-fourth : (t : List ℕ) {second third fourth : List ℕ} → second ≡ after_line t → third ≡ after_line second → fourth ≡ after_line third → fourth ≡ after_lines 3 t
unfolding after_lines
from-fourth t two three four = four ∙ ap after_line (three ∙ ap after_line two)

pub returns-in-Err : goal.returns-in-Err
returns-in-Err c =
    let (line, some) = settings-broken c.in-Err.ensures in
    broken-answer _ line some c.put_broken.ensures (search rules)

pub returns-in-Err-read_task : goal.returns-in-Err-read_task
returns-in-Err-read_task c =
    let fourth = from-fourth c.args.sheet.now c.after_line.ensures.is c.after_line-2.ensures.is c.after_line-fourth.ensures.is in
    let (line, some) = task-broken _ (settings-read c.in-Ok.ensures).right (rw fourth at c.in-Err-read_task.ensures) in
    broken-answer _ line some c.put_broken-in-Err-read_task.ensures (search rules)

pub slice_bounds-key-end : goal.slice_bounds-key-end
slice_bounds-key-end c = (settings-read c.in-Ok.ensures).key.fits

pub slice_bounds-answer_block-end : goal.slice_bounds-answer_block-end
slice_bounds-answer_block-end c = (settings-read c.in-Ok.ensures).key.counts

pub slice_bounds-block-end : goal.slice_bounds-block-end
slice_bounds-block-end c = (task-read c.in-Ok-read_task.ensures).block.fits

pub slice_bounds-answer_block-end-2 : goal.slice_bounds-answer_block-end-2
slice_bounds-answer_block-end-2 c = (task-read c.in-Ok-read_task.ensures).block.counts

pub returns : goal.returns
unfolding values_of said lines after_lines
returns c =
    let fourth = from-fourth c.args.sheet.now c.after_line.ensures.is c.after_line-2.ensures.is c.after_line-fourth.ensures.is in
    let s = settings-read c.in-Ok.ensures in
    let t = task-read (rw fourth at c.in-Ok-read_task.ensures) in
    let is = first-broken c.args.sheet.now (sym s.right) (sym t.right) refl in
    let same = same-values t.sealing s.cipher s.rounds s.key.part t.block.part in
    right_answer _ (sym is) same c.answer_block.ensures (search rules)
