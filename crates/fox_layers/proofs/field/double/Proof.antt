-- `field::double` meets its contract: the top bit is 0 or 1. Where it is 0 the mask leaves nothing of F9, and where it is 1 all of it.
-- Assumes nothing.
use native.Mathlib.Omega.{arith}
use native.Mathlib.Nat.{eq-zero-or-pos}
use borrow.Author.Tests.{lt-ltb, le-ltb}
use mathlib.Core.Path.{◌≡◌}
use mathlib.Core.Logic.{⊎_elim}
use Prim.Native.Nat.{◌-◌, ◌*◌, ◌/◌, ◌%◌}
use Rattle.fox_layers.specs.Field.{double}
use Rattle.fox_layers.proofs.Laws.Xor.{xor-zero}
use Rattle.fox_layers.proofs.field.double.Statement.{statement}
use Rattle.fox_layers.proofs.field.double.Tie as tie

returns : tie.Need-returns
unfolding double
returns c =
    let x = c.args.x in
    let fits = c.ranges.x.fits in
    ⊎_elim
    (λ zero.
    let shifted : x % 128 * 2 ≡ x * 2 = omega arith in
    simp (lt-ltb x 128 (omega arith), zero, shifted, xor-zero))
    (λ above.
    let one : x / 128 ≡ 1 = omega arith in
    let shifted : x % 128 * 2 ≡ x * 2 - 256 = omega arith in
    simp (le-ltb x 128 (omega arith), one, shifted))
    (eq-zero-or-pos (x / 128))

pub double_spec : {M : Type 1} → statement M
double_spec = tie.close (tie.spec (λ c. omega arith) (λ c. omega arith) returns)
