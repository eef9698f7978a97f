-- Lengths added up one by one: the sums so far and those of the lengths from i on make the whole sums, and no length so far is above the limit. A scan takes
-- at most 65,560 bytes with its lines, so that no sum is too large.
-- Assumes nothing.
use mathlib.Core.Path.{◌≡◌, sym, ap, ◌∙◌}
use mathlib.Core.Bool.{true, false}
use mathlib.Core.List.{List}
use Prim.Native.Nat.{ℕ, ◌+◌, ◌*◌, ◌≤◌, ◌<◌}
use native.Mathlib.Omega.{arith}
use borrow.Author.Rules.{rules}
use borrow.Author.Tests.{lt-ltb, le-ltb}
use lib.ListN.{length, drop, get_or}
use Rattle.std.specs.Prelude.{Some, None}
use Rattle.fox_text.specs.Decimal.{decimal_text}
use Rattle.fox_text.proofs.Laws.Tests.{by-test}
use Rattle.fox_run_file.specs.Format.{close_name}
use Rattle.fox_run_file.specs.Sizes.{block_line_size, header_size, scan_size, scans_size, unclosed_size, file_size, total, any_above}
use Rattle.fox_run_file.specs.Parts.{Sized}
use Rattle.fox_run_file.specs.declared.sizes.Sizes.{Sizes}
use Rattle.fox_run_file.proofs.Laws.Sizes.{scan-few, total_here, scans-here, above-here, total-done, scans-done, above-done}
use Rattle.fox_run_file.proofs.Laws.Sizes.{scans-line-size, long-past, large-past, in-limits, sized_past, sized-in}
use Rattle.fox_run_file_sizes.specs.Added.{added, Added}

pub record SoFar (sizes : List ℕ) (i t s : ℕ) : Type 0 where
  pub within : i ≤ length sizes
  pub sum-few : t ≤ i * 65536
  pub size_few : s ≤ i * 65560
  pub sum : t + total (drop i sizes) ≡ total sizes
  pub size : s + scans_size i (drop i sizes) ≡ scans_size 0 sizes
  pub fit : any_above 65536 (drop i sizes) ≡ any_above 65536 sizes

module _ {sizes : List ℕ} {i t s : ℕ} (far : SoFar sizes i t s) where
  -- a length above the limit settles that not all fit
  pub too_long : i < length sizes → 65536 < get_or sizes i 0 → Added sizes None
  too_long here long =
      let above : any_above 65536 sizes ≡ true = sym far.fit ∙ above-here sizes i here 65536 ∙ rw (lt-ltb 65536 (get_or sizes i 0) long) in
      record { is = rw above; few = search rules }

  pub one_more : i < length sizes → get_or sizes i 0 ≤ 65536 → SoFar sizes (i + 1) (t + get_or sizes i 0) (s + scan_size (i + 1) (get_or sizes i 0))
  one_more here short =
      let n = get_or sizes i 0 in
      record {
        within = omega arith;
        sum-few = omega (arith, far.sum-few);
        size_few = omega (arith, far.size_few, scan-few (i + 1) n short);
        sum = omega (arith, far.sum, total_here sizes i here);
        size = omega (arith, far.size, scans-here sizes i here);
        fit = sym (above-here sizes i here 65536 ∙ rw (le-ltb 65536 n short)) ∙ far.fit;
      }

  pub all-added : length sizes ≤ 65535 → length sizes ≤ i → Added sizes (Some (record { total = t; size = s }))
  all-added few past =
      let none : any_above 65536 sizes ≡ false = sym far.fit ∙ above-done sizes i past 65536 in
      let sum : t ≡ total sizes = omega (arith, far.sum, total-done sizes i past) in
      let size : s ≡ scans_size 0 sizes = omega (arith, far.size, scans-done sizes i past) in
      record { is = rw (none, sum, size); few = omega (arith, far.size_few, far.within) }

-- what the sums tell of a file: all that comes before its line `close`, where no scan is too long

module _ {sizes : List ℕ} where
  pub sums-past : (cipher rounds : ℕ) → Added sizes None → Sized cipher rounds sizes None
  sums-past cipher rounds added =
      by-test (any_above 65536 sizes) (λ e. sized_past cipher rounds sizes (long-past cipher rounds sizes e)) (λ e. let is = rw e at added.is in cc)

  module _ {s : Sizes} (sums : Added sizes (Some s)) where
    short : (any_above 65536 sizes ≡ false) × (s ≡ added sizes)
    short = by-test (any_above 65536 sizes) (λ e. let is = rw e at sums.is in cc) (λ e. let is = rw e at sums.is in (e, cc))

    module _ (cipher rounds : ℕ) {header d : ℕ} (h : header ≡ header_size cipher rounds) (n : d ≡ length (decimal_text (length sizes))) where
      before_close : header + s.size + 7 + d ≡ unclosed_size cipher rounds sizes
      unfolding unclosed_size
      before_close = omega (arith, h, n, ap (λ (x : Sizes). x.size) short.1, scans-line-size (length sizes))

      pub sums-large : 1073741824 < header + s.size + 7 + d → Sized cipher rounds sizes None
      sums-large large = sized_past cipher rounds sizes (large-past cipher rounds sizes (omega (arith, before_close)))

      pub sums-in : {close : ℕ} → length sizes ≤ 65535 → header + s.size + 7 + d ≤ 1073741824 → close ≡ block_line_size close_name cipher
          → Sized cipher rounds sizes (Some (record { total = s.total; size = header + s.size + 7 + d + close }))
      unfolding file_size
      sums-in few small close =
          sized-in cipher rounds sizes (in-limits cipher rounds sizes few short.0 (omega (arith, before_close)))
          (ap (λ (x : Sizes). x.total) short.1) (omega (arith, before_close, close))
