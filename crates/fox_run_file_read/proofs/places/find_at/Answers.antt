-- `places::find_at` meets its contract: a place that cannot be moved on has no scan, and at any other the scan with the next number is looked for.
-- Assumes nothing.
use borrow.Author.Rules.{rules}
use Rattle.fox_run_file_read.proofs.Laws.Found.{none-many, none-late, found}
use Rattle.fox_run_file_read.proofs.places.find_at.Goals as goal

pub returns-then-place-ge65535 : goal.returns-then-place-ge65535
returns-then-place-ge65535 c = none-many c.args.file.now c.args.place (search rules)

pub returns-then-place-gt1073741824 : goal.returns-then-place-gt1073741824
returns-then-place-gt1073741824 c = none-late c.args.file.now c.args.place (search rules)

pub returns : goal.returns
returns c = found c.args.file.now c.args.place (search rules) (search rules) _ (rw c.rest.ensures at c.scan_at.ensures)
