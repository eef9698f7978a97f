-- What comes after a run file's header: a file past the limit is told by its length alone, since a right file ends in a close line, whose length is known.
-- Assumes nothing.
use mathlib.Core.Path.{◌≡◌, sym}
use mathlib.Core.Bool.{Bool, false, and-true, and-false}
use mathlib.Core.List.{List}
use Prim.Native.Nat.{ℕ, ◌+◌, ◌-◌, ◌≤◌, ◌<◌}
use native.Mathlib.Omega.{arith}
use lib.ListN.{length, drop}
use lib.Seq.{length-take-le}
use borrow.Author.Tests.{le-leb, lt-leb}
use Rattle.fox_text.specs.Ascii.{codes, ascii}
use Rattle.fox_run_file.specs.Format.{close_name}
use Rattle.fox_run_file.specs.Sizes.{block_line_size, header_size}
use Rattle.fox_run_file.specs.Says.{is_end, before_close, after_scans, scans_from, scans_of, is_rest}
use Rattle.fox_run_file.specs.Parts.{PassesScans}
use Rattle.fox_run_file.specs.declared.scan.Scans.{Scans}
use Rattle.fox_run_file.proofs.Laws.Lines.{block-small}

pub close-small : (cipher : ℕ) → block_line_size close_name cipher ≤ 39
unfolding block_line_size close_name ascii codes
close-small cipher = omega (arith, block-small cipher)

pub before-length : (cipher : ℕ) (file : List ℕ) → length (before_close cipher file) ≡ length file - block_line_size close_name cipher
unfolding before_close
before-length cipher file = length-take-le (length file - block_line_size close_name cipher) file (omega arith)

module _ (cipher rounds : ℕ) (file : List ℕ) where
  abbrev ended : Bool
  ended = is_end cipher (length (scans_of cipher rounds file)) (after_scans 65535 0 (scans_from cipher rounds file))

  pub past-limit : 1073741824 + block_line_size close_name cipher < length file → is_rest cipher rounds file ≡ false
  unfolding is_rest
  past-limit long =
      let many = lt-leb (length (before_close cipher file)) 1073741824 (omega (arith, before-length cipher file)) in
      rw many (and-false ended)

  pub within-limit : {r : Scans} → length file ≤ 1073741824 + block_line_size close_name cipher → PassesScans file (header_size cipher rounds) r
      → is_end cipher r.number (drop r.at file) ≡ is_rest cipher rounds file
  unfolding is_rest scans_of
  within-limit short passed =
      let few = le-leb (length (before_close cipher file)) 1073741824 (omega (arith, before-length cipher file)) in
      rw (few, passed.number, passed.rest) (sym (and-true ended))
