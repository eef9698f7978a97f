-- `sbox::sbox` meets its contract: the constant is the list that the three small S-boxes give, which the prover computes.
-- Assumes nothing.
use mathlib.Core.Path.{refl}
use Rattle.fox_layers.specs.Substitution.{S₁, S₂, S₃, halves, whole, or4, lmid4, lmor4, sbox}
use Rattle.fox_layers.specs.Tables.{table, sbox_table}
use Rattle.fox_engine_sbox.proofs.sbox.sbox.Statement.{statement}
use Rattle.fox_engine_sbox.proofs.sbox.sbox.Tie as tie

pub sbox_spec : {M : Type 1} → statement M
unfolding S₁ S₂ S₃ halves whole or4 lmid4 lmor4 sbox table sbox_table
sbox_spec = tie.close (tie.spec (λ c. refl))
