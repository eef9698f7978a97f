-- `wide::or_halves` meets its contract: each half's right 16 bits stay within the half when they are moved to the left, and the mask acts half by half.
-- Assumes nothing.
use native.Mathlib.Omega.{arith}
use lib.Bits.{and_le_r}
use Rattle.fox_server_rounds_four.proofs.Laws.Wide.{or-both}
use Rattle.fox_server_rounds_four.proofs.wide.or_halves.Statement.{statement}
use Rattle.fox_server_rounds_four.proofs.wide.or_halves.Tie as tie

mul-result : tie.Need-overflow_mul-result
mul-result c = record { fits = omega (arith, and_le_r c.args.w 0x0000FFFF0000FFFF) }

returns : tie.Need-returns
returns c = or-both c.args.w c.ranges.w.fits

pub or_halves_spec : {M : Type 1} → statement M
or_halves_spec = tie.close (tie.spec mul-result returns)
