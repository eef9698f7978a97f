-- `tbsm4::constant` meets its contract: each constant is the list that its rule gives, which the prover computes.
-- Assumes nothing.
use mathlib.Core.Path.{refl}
use native.Mathlib.Omega.{arith}
use borrow.Author.Rules.{rules}
use Rattle.fox_layers.specs.Words.{joined}
use Rattle.fox_layers.specs.Field.{double, halve}
use Rattle.fox_layers.specs.Substitution.{S₁, S₂, S₃, halves, whole, or4, lmid4, lmor4, sbox}
use Rattle.fox_layers.specs.Diffusion.{mu4_rows}
use Rattle.fox_layers.specs.Tables.{table, column}
use Rattle.fox_server_tables.proofs.Laws.Doubling.{quick, quick_scaled, by_number}
use Rattle.fox_server_tables.proofs.tbsm4.constant.Statement.{statement}
use Rattle.fox_server_tables.proofs.tbsm4.constant.Tie as tie

pub constant_spec : {M : Type 1} → statement M
unfolding joined double halve S₁ S₂ S₃ halves whole or4 lmid4 lmor4 sbox mu4_rows table column quick quick_scaled
constant_spec =
    tie.close (tie.spec (λ c. by_number mu4_rows 0 (search rules) refl) (λ c. by_number mu4_rows 1 (search rules) refl)
    (λ c. by_number mu4_rows 2 (search rules) refl)
    (λ c. by_number mu4_rows 3 (omega arith) refl))
