-- The first counter block of a run with a number, as code writes it: word by word, the number's word before the last.
-- Assumes nothing.
use mathlib.Core.Path.{◌≡◌, sym, ap, ap₂, ◌∙◌}
use mathlib.Core.List.{List, ◌++◌}
use Prim.Native.Nat.{ℕ, ◌*◌, ◌/◌, ◌^◌, ◌<◌}
use native.Mathlib.Nat.{add-zero}
use native.Mathlib.Omega.{arith}
use Rattle.fox_layers.specs.Words.{split}
use Rattle.fox_layers.proofs.Laws.Words.{split-above, split_parts}
use Rattle.fox_block.proofs.Laws.Block.{size_64, size-128}
use Rattle.fox_run.specs.Counter.{first_counter}

-- the last eight bytes: the number's, and four zeros
last-eight : (n : ℕ) → split 4 n ++ split 4 0 ≡ split 8 (n * 2 ^ 32)
last-eight n =
    let high : n * 2 ^ 32 / 2 ^ 32 ≡ n = omega arith in
    let low : split 4 (n * 2 ^ 32) ≡ split 4 0 = ap (split 4) (sym (add-zero (n * 2 ^ 32))) ∙ split-above 4 n 0 in
    sym (split_parts 4 4 (n * 2 ^ 32) ∙ ap₂ (λ (w : ℕ) (xs : List ℕ). split 4 w ++ xs) high low)

pub first-64 : (c n : ℕ) → c ≡ 64 → split 4 n ++ split 4 0 ≡ first_counter c n
unfolding first_counter
first-64 c n e = last-eight n ∙ ap (λ (k : ℕ). split k (n * 2 ^ 32)) (sym (size_64 c e))

pub first-128 : (c n : ℕ) → (c ≡ 64 → ⊥) → n < 2 ^ 32 → split 4 0 ++ split 4 0 ++ split 4 n ++ split 4 0 ≡ first_counter c n
unfolding first_counter split
first-128 c n e h =
    let none : n * 2 ^ 32 / 2 ^ 64 ≡ 0 = omega arith in
    ap (λ (xs : List ℕ). split 8 0 ++ xs) (last-eight n)
    ∙ sym (split_parts 8 8 (n * 2 ^ 32) ∙ ap (λ (w : ℕ). split 8 w ++ split 8 (n * 2 ^ 32)) none)
    ∙ ap (λ (k : ℕ). split k (n * 2 ^ 32)) (sym (size-128 c e))
