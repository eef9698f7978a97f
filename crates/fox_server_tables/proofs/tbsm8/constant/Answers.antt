-- `tbsm8::constant` meets its contract: each constant is the list that its rule gives, which the prover computes.
-- Assumes nothing.
use mathlib.Core.Path.{◌≡◌, refl}
use Prim.Native.Nat.{ℕ, suc, ◌≤◌, ◌<◌}
use native.Mathlib.Omega.{arith}
use borrow.Author.Rules.{rules}
use Rattle.fox_layers.specs.Words.{joined}
use Rattle.fox_layers.specs.Field.{double, halve}
use Rattle.fox_layers.specs.Substitution.{S₁, S₂, S₃, halves, whole, or4, lmid4, lmor4, sbox}
use Rattle.fox_layers.specs.Diffusion.{mu8_rows}
use Rattle.fox_layers.specs.Tables.{table, column}
use Rattle.fox_server_tables.proofs.Laws.Doubling.{quick, quick_scaled, by_number}
use Rattle.fox_server_tables.proofs.tbsm8.constant.Goals as goal

-- the number that is left when those before it are ruled out
above : {j k : ℕ} → k ≤ j → (j ≡ k → ⊥) → suc k ≤ j
above h n = omega arith

last : {j k : ℕ} → k ≤ j → j < suc k → j ≡ k
last h l = omega arith

pub returns-in_default : goal.returns-in_default
unfolding joined double halve S₁ S₂ S₃ halves whole or4 lmid4 lmor4 sbox mu8_rows table column quick quick_scaled
returns-in_default c =
    by_number mu8_rows 7 (omega arith) refl

pub returns-in-0 : goal.returns-in-0
unfolding joined double halve S₁ S₂ S₃ halves whole or4 lmid4 lmor4 sbox mu8_rows table column quick quick_scaled
returns-in-0 c = by_number mu8_rows 0 (search rules) refl

pub returns-in-1 : goal.returns-in-1
unfolding joined double halve S₁ S₂ S₃ halves whole or4 lmid4 lmor4 sbox mu8_rows table column quick quick_scaled
returns-in-1 c = by_number mu8_rows 1 (search rules) refl

pub returns-in-2 : goal.returns-in-2
unfolding joined double halve S₁ S₂ S₃ halves whole or4 lmid4 lmor4 sbox mu8_rows table column quick quick_scaled
returns-in-2 c = by_number mu8_rows 2 (search rules) refl

pub returns-in-3 : goal.returns-in-3
unfolding joined double halve S₁ S₂ S₃ halves whole or4 lmid4 lmor4 sbox mu8_rows table column quick quick_scaled
returns-in-3 c = by_number mu8_rows 3 (search rules) refl

pub returns-in-4 : goal.returns-in-4
unfolding joined double halve S₁ S₂ S₃ halves whole or4 lmid4 lmor4 sbox mu8_rows table column quick quick_scaled
returns-in-4 c = by_number mu8_rows 4 (search rules) refl

pub returns-in-5 : goal.returns-in-5
unfolding joined double halve S₁ S₂ S₃ halves whole or4 lmid4 lmor4 sbox mu8_rows table column quick quick_scaled
returns-in-5 c = by_number mu8_rows 5 (search rules) refl

pub returns-in-6 : goal.returns-in-6
unfolding joined double halve S₁ S₂ S₃ halves whole or4 lmid4 lmor4 sbox mu8_rows table column quick quick_scaled
returns-in-6 c = by_number mu8_rows 6 (search rules) refl
