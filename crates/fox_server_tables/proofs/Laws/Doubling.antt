-- The joined S-box/diffusion tables (TBSM) by doubling and halving. A product computed as the field defines it takes the prover a hundred steps where a
-- doubling takes a few, and twelve tables need twenty thousand products; so a table is computed in this form, which is the same list.
-- Assumes nothing.
use mathlib.Core.Path.{◌≡◌, refl, sym, ap, ◌∙◌, fun_ext}
use mathlib.Core.Bool.{cond}
use mathlib.Core.List.{List, map}
use Prim.Native.Nat.{ℕ, ◌<◌}
use native.Mathlib.Omega.{arith}
use lib.Dec.{eqb}
use borrow.Author.Tests.{eqb-true}
use Rattle.fox_layers.specs.Words.{◌⊕◌, joined}
use Rattle.fox_layers.specs.Field.{double, halve, product}
use Rattle.fox_layers.specs.Substitution.{sbox}
use Rattle.fox_layers.specs.Tables.{table, column, scaled, tbsm_entry}
use Rattle.fox_layers.proofs.Laws.Lists.{by-test, numbered-same}
use Rattle.fox_layers.proofs.Laws.Field.{products}
use Rattle.fox_layers.proofs.Laws.Tables.{sbox-lt}

-- the product by m: a case for each coefficient of mu4 and mu8, and the definition for any other number. What a `let` names is computed only if it is used.
unfoldable pub quick : ℕ → ℕ → ℕ
quick m x =
    let other = product m x in
    let p_fd = halve x ⊕ x in
    let upto_fd = cond (eqb m 0xFD) p_fd other in
    let p_fc = halve x in
    let upto_fc = cond (eqb m 0xFC) p_fc upto_fd in
    let p82 = halve x ⊕ halve (halve x) in
    let upto82 = cond (eqb m 0x82) p82 upto_fc in
    let p_7e = halve (halve x) in
    let upto_7e = cond (eqb m 0x7E) p_7e upto82 in
    let p04 = double (double x) in
    let upto04 = cond (eqb m 0x04) p04 upto_7e in
    let p03 = double x ⊕ x in
    let upto03 = cond (eqb m 0x03) p03 upto04 in
    let p02 = double x in
    let upto02 = cond (eqb m 0x02) p02 upto03 in
    let p01 = x in
    cond (eqb m 0x01) p01 upto02

-- one case: where m is k, the product by k is the product by m
one-case : (m k x y rest : ℕ) → product k x ≡ y → rest ≡ product m x → cond (eqb m k) y rest ≡ product m x
one-case m k x y rest here else = by-test (eqb m k) (λ t. rw (t, eqb-true m k t) (sym here)) (λ t. rw t else)

quick-product : (m x : ℕ) → x < 256 → quick m x ≡ product m x
unfolding quick
quick-product m x h =
    let p = products x h in
    one-case m 0x01 x _ _ p.by01 (one-case m 0x02 x _ _ p.by02 (one-case m 0x03 x _ _ p.by03 (one-case m 0x04 x _ _ p.by04
    (one-case m 0x7E x _ _ p.by_7e (one-case m 0x82 x _ _ p.by82 (one-case m 0xFC x _ _ p.by_fc (one-case m 0xFD x _ _ p.by_fd refl)))))))

unfoldable pub quick_scaled : List ℕ → ℕ → ℕ
quick_scaled ms x = joined (map (λ (m : ℕ). quick m x) ms)

quick-scaled : (ms : List ℕ) (x : ℕ) → x < 256 → scaled ms x ≡ quick_scaled ms x
unfolding scaled quick_scaled
quick-scaled ms x h = ap (λ (f : ℕ → ℕ). joined (map f ms)) (fun_ext (λ m. sym (quick-product m x h)))

tbsm_entry-quick : (rows : List (List ℕ)) (j : ℕ) → table (tbsm_entry rows j) ≡ table (λ (x : ℕ). quick_scaled (column j rows) (sbox x))
unfolding table tbsm_entry
tbsm_entry-quick rows j =
    numbered-same (λ (x : ℕ). scaled (column j rows) (sbox x)) (λ (x : ℕ). quick_scaled (column j rows) (sbox x)) 256 0
    (λ x h. quick-scaled (column j rows) (sbox x) (sbox-lt x (omega arith)))

-- table number j, where j is k, from what the prover computes at k
pub by_number : (rows : List (List ℕ)) (k : ℕ) {j : ℕ} {t : List ℕ} → j ≡ k → t ≡ table (λ (x : ℕ). quick_scaled (column k rows) (sbox x))
    → t ≡ table (tbsm_entry rows j)
by_number rows k e computed = rw e (computed ∙ sym (tbsm_entry-quick rows k))
