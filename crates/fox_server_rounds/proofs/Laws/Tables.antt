-- What lookups give in the tables of `TablesOf`: substitution in TBS, and diffusion after substitution in TBSM.
-- Assumes nothing.
use mathlib.Core.Path.{◌≡◌, sym, ap, ap₂, ◌∙◌}
use mathlib.Core.List.{List}
use Prim.Native.Nat.{ℕ, ◌+◌, ◌*◌, ◌/◌, ◌%◌, ◌^◌, ◌<◌}
use native.Mathlib.Nat.{div-add-mod', mod-lt}
use lib.Pow.{pow_pos}
use lib.Bits.{xor_block}
use Rattle.fox_layers.specs.Words.{◌⊕◌}
use Rattle.fox_layers.specs.Substitution.{sigma}
use Rattle.fox_layers.specs.Diffusion.{mu4_rows, mu8_rows, mu4, mu8}
use Rattle.fox_layers.specs.Tables.{picked}
use Rattle.fox_layers.proofs.Laws.Tables.{picked-TBS, sigma-halves, picked-mu4, picked-mu8}
use Rattle.fox_rounds.specs.Rounds.{left, right, xor128}
use Rattle.fox_rounds.specs.declared.fox128.Fox128.{Fox128}
use Rattle.fox_rounds.proofs.Laws.Halves.{left-pair, right-pair}
use Rattle.fox_server_rounds.specs.Tables.{TablesOf}

pub tables-sigma4 : {rows : List (List ℕ)} {s t : List ℕ} → TablesOf rows s t → (w : ℕ) → picked 4 s w ≡ sigma 4 w
tables-sigma4 lent w = ap (λ (l : List ℕ). picked 4 l w) lent.s ∙ picked-TBS 4 w

pub tables-sigma8 : {rows : List (List ℕ)} {s t : List ℕ} → TablesOf rows s t → (w : ℕ)
    → picked 4 s (w / 2 ^ 32) * 2 ^ 32 + picked 4 s (w % 2 ^ 32) ≡ sigma 8 w
tables-sigma8 lent w =
    ap₂ (λ (l r : ℕ). l * 2 ^ 32 + r) (tables-sigma4 lent (w / 2 ^ 32)) (tables-sigma4 lent (w % 2 ^ 32)) ∙ sigma-halves w

pub tables-mu4 : {s t : List ℕ} → TablesOf mu4_rows s t → (w : ℕ) → picked 4 t w ≡ mu4 (sigma 4 w)
tables-mu4 lent w = ap (λ (l : List ℕ). picked 4 l w) lent.t ∙ picked-mu4 w

pub tables-mu8 : {s t : List ℕ} → TablesOf mu8_rows s t → (w : ℕ) → picked 8 t w ≡ mu8 (sigma 8 w)
tables-mu8 lent w = ap (λ (l : List ℕ). picked 8 l w) lent.t ∙ picked-mu8 w

-- a word XORed with another, half by half
pub halves-xored : (p q k : ℕ) → p < 2 ^ 32 → q < 2 ^ 32 → (p * 2 ^ 32 + q) ⊕ k ≡ (p ⊕ k / 2 ^ 32) * 2 ^ 32 + (q ⊕ k % 2 ^ 32)
halves-xored p q k hp hq =
    ap (λ (x : ℕ). (p * 2 ^ 32 + q) ⊕ x) (sym (div-add-mod' k (2 ^ 32)))
    ∙ xor_block 32 p (k / 2 ^ 32) q (k % 2 ^ 32) hq (mod-lt k (pow_pos 32))

-- the round from its two halves
pub halves-xor128 : (p q t : ℕ) (x : Fox128) → p < 2 ^ 32 → q < 2 ^ 32 → t ≡ p * 2 ^ 32 + q
    → record { ll = x.ll ⊕ p; lr = x.lr ⊕ p; rl = x.rl ⊕ q; rr = x.rr ⊕ q } ≡ xor128 t x
unfolding xor128
halves-xor128 p q t x hp hq e =
    let l : p ≡ left 32 t = sym (ap (left 32) e ∙ left-pair 32 p q hp hq) in
    let r : q ≡ right 32 t = sym (ap (right 32) e ∙ right-pair 32 p q hq) in
    λ i. record { ll = x.ll ⊕ l i; lr = x.lr ⊕ l i; rl = x.rl ⊕ r i; rr = x.rr ⊕ r i }
