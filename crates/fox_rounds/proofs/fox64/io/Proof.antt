-- `fox64::io` meets its contract: the halves of a word are its quotient and its remainder by 2 ^ 16, and the XOR of the two has 16 bits.
-- Assumes nothing.
use mathlib.Core.Path.{sym, ap}
use Prim.Native.Nat.{ℕ, ◌+◌, ◌*◌, ◌/◌, ◌%◌, ◌<◌}
use native.Mathlib.Omega.{arith}
use Rattle.fox_layers.specs.Words.{◌⊕◌}
use Rattle.fox_layers.proofs.Laws.Xor.{xor_lt}
use Rattle.fox_rounds.specs.Rounds.{right, io}
use Rattle.fox_rounds.proofs.Laws.Halves.{left-div}
use Rattle.fox_rounds.proofs.fox64.io.Statement.{statement}
use Rattle.fox_rounds.proofs.fox64.io.Tie as tie

halves-xor-lt : (c : tie.Start) → (c.args.w / 65536 ⊕ c.args.w % 65536) < 65536
halves-xor-lt c = xor_lt 16 (c.args.w / 65536) (c.args.w % 65536) (omega arith) (omega arith)

mul-result : tie.Need-overflow_mul-result
mul-result c = omega (arith, halves-xor-lt c)

add-result : tie.Need-overflow_add-result
add-result c = omega (arith, halves-xor-lt c)

returns : tie.Need-returns
unfolding io right
returns c =
    let w = c.args.w in
    ap (λ (p : ℕ). (p ⊕ w % 65536) * 65536 + p) (sym (left-div 16 w c.ranges.w.fits))

pub io_spec : {M : Type 1} → statement M
io_spec = tie.close (tie.spec mul-result add-result returns)
