-- A buffer with a text at its front that grows, and bytes further back that are still to be moved to it.
-- Assumes nothing.
use Rattle.std.specs.Prelude.{◌≡◌, ℕ, ◌+◌, ◌≤◌, false, List, ◌++◌, length, take, drop}
use Rattle.fox_run_file.specs.Sizes.{scan_size, scans_size, total, any_above}

-- the text is written after the first `at` bytes, up to place r, and all from place `from` on is as it was
pub record Laid (at from : ℕ) (text before after : List ℕ) (r : ℕ) : Type 0 where
  pub place : r ≡ at + length text
  pub front : take r after ≡ take at before ++ text
  pub back : drop from after ≡ drop from before

-- room for a scan that begins at `at` and whose bytes stand at `src`: it ends where they end, or before; there is room for two lines of five digits
pub record ScanRoom (at src number size : ℕ) (out : List ℕ) : Type 0 where
  pub small : size ≤ 65536
  pub gap : at + scan_size number size ≤ src + size
  pub fits : src + size ≤ length out
  pub lines : at + 23 ≤ length out

-- room for scans that begin at `at` and whose bytes stand at `src`, and for 23 bytes after them, as many as the line `close` has at least
pub record Room (at src : ℕ) (sizes out : List ℕ) : Type 0 where
  pub few : length sizes ≤ 65535
  pub small : any_above 65536 sizes ≡ false
  pub gap : at + scans_size 0 sizes + 23 ≤ src + total sizes
  pub fits : src + total sizes ≤ length out
