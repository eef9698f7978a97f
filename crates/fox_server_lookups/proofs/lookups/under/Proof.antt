-- `lookups::under` meets its contract: the mask is 2 ^ 8 - 1, so what is left is the word modulo 2 ^ 8.
-- Assumes nothing.
use mathlib.Core.Path.{ap, ◌∙◌}
use Prim.Native.Nat.{ℕ}
use lib.Bits.{bit_and, and_mask}
use Rattle.fox_server_lookups.proofs.lookups.under.Statement.{statement}
use Rattle.fox_server_lookups.proofs.lookups.under.Tie as tie

returns : tie.Need-returns
returns c = ap (λ (m : ℕ). bit_and c.args.w m) c.requires ∙ and_mask c.args.w 8

pub under_spec : {M : Type 1} → statement M
under_spec = tie.close (tie.spec returns)
