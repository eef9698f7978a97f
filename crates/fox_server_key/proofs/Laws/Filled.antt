-- The words of a prepared key while a loop stores them, one round key after the other.
-- Assumes nothing.
use mathlib.Core.Path.{◌≡◌, refl, sym, ap, ap₂, ◌∙◌}
use mathlib.Core.List.{List, [], ◌∷◌, ◌++◌, append_assoc}
use Prim.Native.Nat.{ℕ, suc, ◌+◌, ◌-◌, ◌*◌, ◌<◌}
use native.Mathlib.Nat.{zero-add}
use native.Mathlib.Numerals.{add-one}
use native.Mathlib.Omega.{arith}
use lib.ListN.{length, set, replicate, length-append}
use lib.Seq.{set_at}
use Rattle.fox_rounds.specs.Rounds.{left, right}
use Rattle.fox_layers.proofs.Laws.Lists.{length-numbered, numbered-snoc}
use Rattle.fox_layers.specs.Lists.{numbered}
use Rattle.fox_server_key.specs.Prepared.{in_halves, filled}

-- one word more
pub filled-snoc : (ws : List ℕ) (w n : ℕ) → length ws ≡ n → n < 510 → set (filled ws) n w ≡ filled (ws ++ (w ∷ []))
unfolding filled
filled-snoc ws w n here h =
    let more : 510 - length ws ≡ suc (509 - length ws) = omega arith in
    let rest : 509 - length ws ≡ 510 - length (ws ++ (w ∷ [])) = rw (length-append ws (w ∷ [])) (omega arith) in
    ap (λ (m : ℕ). set (ws ++ replicate m 0) n w) more
    ∙ set_at ws 0 (replicate (509 - length ws) 0) w n here
    ∙ sym (append_assoc ws (w ∷ []) (replicate (509 - length ws) 0))
    ∙ ap (λ (m : ℕ). (ws ++ (w ∷ [])) ++ replicate m 0) rest

-- one round key more
numbered_more : (k : ℕ → ℕ) (n : ℕ) → numbered k (n + 1) 0 ≡ numbered k n 0 ++ (k n ∷ [])
numbered_more k n =
    ap (λ (m : ℕ). numbered k m 0) (add-one n)
    ∙ numbered-snoc k n 0
    ∙ ap (λ (m : ℕ). numbered k n 0 ++ (k m ∷ [])) (zero-add n)

pub filled-64 : (k : ℕ → ℕ) (n w : ℕ) (keys : List ℕ) → n < 510 → w ≡ k n → keys ≡ filled (numbered k n 0) → set keys n w ≡ filled (numbered k (n + 1) 0)
filled-64 k n w keys h e before =
    ap (λ (ws : List ℕ). set ws n w) before
    ∙ filled-snoc (numbered k n 0) w n (length-numbered k n 0) h
    ∙ ap (λ (v : ℕ). filled (numbered k n 0 ++ (v ∷ []))) e
    ∙ ap filled (sym (numbered_more k n))

pub length-in_halves : (ks : List ℕ) → length (in_halves ks) ≡ 2 * length ks
unfolding in_halves
length-in_halves [] = refl
length-in_halves (k ∷ ks) = rw (length-in_halves ks) (omega arith)

in_halves-append : (ks ls : List ℕ) → in_halves (ks ++ ls) ≡ in_halves ks ++ in_halves ls
unfolding in_halves
in_halves-append [] ls = refl
in_halves-append (k ∷ ks) ls = ap (λ (ws : List ℕ). left 64 k ∷ right 64 k ∷ ws) (in_halves-append ks ls)

pub filled-128 : (k : ℕ → ℕ) (n a b : ℕ) (keys : List ℕ) → n < 255 → a ≡ left 64 (k n) → b ≡ right 64 (k n) → keys ≡ filled (in_halves (numbered k n 0))
    → set (set keys (2 * n) a) (2 * n + 1) b ≡ filled (in_halves (numbered k (n + 1) 0))
unfolding in_halves
filled-128 k n a b keys h ea eb before =
    let ws = in_halves (numbered k n 0) in
    let long : length ws ≡ 2 * n = length-in_halves (numbered k n 0) ∙ ap (λ (m : ℕ). 2 * m) (length-numbered k n 0) in
    let longer : length (ws ++ (a ∷ [])) ≡ 2 * n + 1 = length-append ws (a ∷ []) ∙ ap (λ (m : ℕ). m + 1) long in
    ap (λ (l : List ℕ). set (set l (2 * n) a) (2 * n + 1) b) before
    ∙ ap (λ (l : List ℕ). set l (2 * n + 1) b) (filled-snoc ws a (2 * n) long (omega arith))
    ∙ filled-snoc (ws ++ (a ∷ [])) b (2 * n + 1) longer (omega arith)
    ∙ ap filled (append_assoc ws (a ∷ []) (b ∷ []))
    ∙ ap₂ (λ (u v : ℕ). filled (ws ++ (u ∷ v ∷ []))) ea eb
    ∙ ap filled (sym (in_halves-append (numbered k n 0) (k n ∷ [])))
    ∙ ap (λ (l : List ℕ). filled (in_halves l)) (sym (numbered_more k n))
