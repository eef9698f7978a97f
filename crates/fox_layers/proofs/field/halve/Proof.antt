-- `field::halve` meets its contract: the bottom bit is 0 or 1. Where it is 0 the mask leaves nothing of FC, and where it is 1 all of it.
-- Assumes nothing.
use native.Mathlib.Omega.{arith}
use native.Mathlib.Nat.{eq-zero-or-pos}
use mathlib.Core.Path.{◌≡◌}
use mathlib.Core.Logic.{⊎_elim}
use Prim.Native.Nat.{◌%◌}
use Rattle.fox_layers.specs.Field.{halve}
use Rattle.fox_layers.proofs.Laws.Xor.{xor-zero}
use Rattle.fox_layers.proofs.field.halve.Statement.{statement}
use Rattle.fox_layers.proofs.field.halve.Tie as tie

returns : tie.Need-returns
unfolding halve
returns c =
    let x = c.args.x in
    ⊎_elim
    (λ (zero : x % 2 ≡ 0). simp (zero, xor-zero))
    (λ above. let one : x % 2 ≡ 1 = omega arith in simp one)
    (eq-zero-or-pos (x % 2))

pub halve_spec : {M : Type 1} → statement M
halve_spec = tie.close (tie.spec (λ c. omega arith) returns)
