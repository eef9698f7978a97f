-- A table of a function on bytes has the function's value at each byte. So two functions on bytes whose tables are the same list agree at every byte, and
-- that the lists are the same is one test, which the prover computes.
-- Assumes nothing.
use mathlib.Core.Path.{◌≡◌, sym, ap, ◌∙◌, subst}
use mathlib.Core.List.{List}
use Prim.Native.Nat.{ℕ, ◌%◌, ◌<◌}
use native.Mathlib.Nat.{zero-add, mod-lt}
use lib.ListN.{get_or}
use Rattle.fox_layers.specs.Tables.{table}
use Rattle.fox_layers.proofs.Laws.Lists.{numbered-at}

pub table_at : (f : ℕ → ℕ) (x : ℕ) → x < 256 → get_or (table f) x 0 ≡ f x
unfolding table
table_at f x h = numbered-at f 256 0 x 0 h ∙ ap f (zero-add x)

pub agree : (f g : ℕ → ℕ) → table f ≡ table g → (x : ℕ) → x < 256 → f x ≡ g x
agree f g same x h = sym (table_at f x h) ∙ ap (λ (t : List ℕ). get_or t x 0) same ∙ table_at g x h

-- a function that equals its remainder by m at every byte is below m at every byte
pub below : (m : ℕ) (f : ℕ → ℕ) → 0 < m → table (λ (x : ℕ). f x % m) ≡ table f → (x : ℕ) → x < 256 → f x < m
below m f pos same x h = subst (λ (y : ℕ). y < m) (agree (λ (x : ℕ). f x % m) f same x h) (mod-lt (f x) pos)
