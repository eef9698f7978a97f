-- `nibbles::right_halves` meets its contract: a shift brings a bit of each byte to the lowest place, and ONES leaves that one.
-- Assumes nothing.
use mathlib.Core.Path.{◌∙◌}
use Prim.Native.Nat.{ℕ, ◌%◌}
use native.Mathlib.Nat.{div-one}
use native.Mathlib.Omega.{arith}
use lib.ListN.{length-map}
use Rattle.fox_layers.proofs.Laws.Bits.{taken, small_low}
use Rattle.fox_layers.proofs.Laws.Words.{length-split}
use Rattle.fox_layers.specs.Words.{split}
use Rattle.fox_layers.proofs.nibbles.right_halves.Statement.{statement}
use Rattle.fox_layers.proofs.nibbles.right_halves.Tie as tie

returns : tie.Need-returns
returns c =
    let w = c.args.w in
    let right : ℕ → ℕ = λ x. x % 16 in
    record {
      eight = length-map (split 8 w) right ∙ length-split 8 w;
      small = small_low (split 8 w);
      b3 = taken _ right _ w (λ y. omega arith);
      b2 = taken _ right _ w (λ y. omega arith);
      b1 = taken _ right _ w (λ y. omega arith);
      b0 = rw (div-one w) at (taken (λ (n : ℕ). n) right 1 w (λ y. omega arith));
    }

pub right_halves_spec : {M : Type 1} → statement M
right_halves_spec = tie.close (tie.spec returns)
