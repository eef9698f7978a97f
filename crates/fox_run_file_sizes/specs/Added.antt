-- The lengths of scans added up, as far as no scan is too long.
-- Assumes nothing.
use Rattle.std.specs.Prelude.{◌≡◌, ℕ, ◌*◌, ◌≤◌, cond, List, Option, Some, None, IfSome}
use Rattle.fox_run_file.specs.declared.sizes.Sizes.{Sizes}
use Rattle.fox_run_file.specs.Sizes.{total, scans_size, any_above}

-- the sum of the lengths, and that of the scans with their lines
abbrev pub added : List ℕ → Sizes
added sizes = record { total = total sizes; size = scans_size 0 sizes }

-- none where a length is above the limit; the second sum is small enough to be added to
pub record Added (sizes : List ℕ) (r : Option Sizes) : Type 0 where
  pub is : r ≡ cond (any_above 65536 sizes) None (Some (added sizes))
  pub few : IfSome r (λ s. s.size ≤ 65535 * 65560)
