-- `scan::scan_at` meets its contract: its two lines are looked for, one after the other, and a line feed after as many bytes as the second says.
-- Assumes nothing.
use Rattle.fox_text.specs.Ascii.{codes, ascii}
use Rattle.fox_run_file.specs.Format.{scan_name, bytes_name}
use Rattle.fox_run_file.proofs.Laws.Scan.{first-missing, second-missing, second-read, feed-told}
use Rattle.fox_run_file_scan.proofs.scan.scan_at.Goals as goal

pub returns-in_err-n : goal.returns-in_err-n
unfolding codes ascii scan_name
returns-in_err-n c = rw c.from_residual.ensures (first-missing _ _ c.in_err-n.ensures)

pub returns-in_err-size : goal.returns-in_err-size
unfolding codes ascii scan_name bytes_name
returns-in_err-size c =
    rw c.from_residual-in_err-size.ensures (second-missing _ _ c.in_ok-n.ensures c.rest-second.ensures c.in_err-size.ensures)

pub returns : goal.returns
unfolding codes ascii scan_name bytes_name
returns c =
    rw c.then_some.ensures
    (feed-told (second-read _ _ c.in_ok-n.ensures c.rest-second.ensures c.in_ok-size.ensures
    c.line_end.ensures.is c.rest-bytes.ensures c.rest.ensures c.starts_with.ensures))
