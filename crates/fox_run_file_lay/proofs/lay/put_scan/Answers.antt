-- `lay::put_scan` meets its contract: two lines, the bytes and a line feed, one after the other.
-- Assumes nothing.
use native.Mathlib.Omega.{arith}
use Rattle.fox_text.specs.Ascii.{codes, ascii}
use Rattle.fox_run_file.specs.Format.{scan_name, bytes_name}
use Rattle.fox_run_file_lay.proofs.Laws.Laid.{copied}
use Rattle.fox_run_file_lay.proofs.Laws.Scans.{head-end, scan-laid}
use Rattle.fox_run_file_lay.proofs.lay.put_scan.Goals as goal

pub copy_within-requires : goal.copy_within-requires
unfolding scan_name bytes_name ascii codes
copy_within-requires c =
    let room = c.requires in
    let end = head-end room c.put_decimal_line-a.ensures c.put_decimal_line-b.ensures in
    record {
      start_le_end = omega arith;
      in_bounds = omega (arith, room.fits);
      dest_in_bounds = omega (arith, room.fits);
      not_exhausted = tt;
    }

pub put-requires : goal.put-requires
unfolding scan_name bytes_name ascii codes
put-requires c =
    let room = c.requires in
    let end = head-end room c.put_decimal_line-a.ensures c.put_decimal_line-b.ensures in
    omega (arith, room.fits)

pub returns : goal.returns
unfolding scan_name bytes_name ascii codes
returns c =
    let room = c.requires in
    let a = c.args in
    let end = head-end room c.put_decimal_line-a.ensures c.put_decimal_line-b.ensures in
    let copy = copied c.put_decimal_line-b.result a.src a.size _ _ (omega arith) (omega (arith, room.fits)) c.copy_within.ensures.after in
    scan-laid room c.put_decimal_line-a.ensures c.put_decimal_line-b.ensures copy c.put.ensures (omega arith)
