-- The register of the key schedules (001 §2.3.9): its seed, and its steps forward and back.
-- Assumes nothing.
use Rattle.std.specs.Prelude.{ℕ, zero, suc, ◌-◌, ◌*◌, ◌/◌, ◌%◌, ◌^◌, [], ◌∷◌, Bool, true, false, cond, ltb, eqb}
use Rattle.fox_layers.specs.Words.{◌⊕◌, joined}

-- §2.3.9: the register's first value, for r rounds
unfoldable pub seed : ℕ → ℕ
seed r = joined (0x6A ∷ r ∷ (r ⊕ 0xFF) ∷ [])

-- §2.3.9, Algorithm 6: one step: doubling modulo PKS, which is 100001B
unfoldable pub clocked : ℕ → ℕ
clocked reg = let over = (reg * 2 - 2 ^ 24) ⊕ 0x1B in cond (ltb reg (2 ^ 23)) (reg * 2) over

-- one step back: halving modulo PKS; 1/ξ is 80000D
unfoldable pub clocked_back : ℕ → ℕ
clocked_back reg = let under = reg / 2 ⊕ 0x80000D in cond (eqb (reg % 2) 0) (reg / 2) under

unfoldable pub iterate : {A : Type 0} → ℕ → (A → A) → A → A
iterate zero f x = x
iterate (suc n) f x = f (iterate n f x)

-- §2.3.9: LFSR (c, r): the seed for r rounds after c steps
unfoldable pub LFSR : ℕ → ℕ → ℕ
LFSR c r = iterate c clocked (seed r)

-- one step on, or back
unfoldable pub step : Bool → ℕ → ℕ
step true = clocked
step false = clocked_back

-- the register n steps on, or n steps back
unfoldable pub stepped : Bool → ℕ → ℕ → ℕ
stepped on n reg = iterate n (step on) reg
