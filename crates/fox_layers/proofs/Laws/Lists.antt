-- A test by its cases, and the values of a function in a row: their number, each of them, one more at either end, and read backwards.
-- Assumes nothing.
use mathlib.Core.Path.{◌≡◌, refl, sym, ap, ap₂, ◌∙◌}
use mathlib.Core.Bool.{Bool, true, false}
use mathlib.Core.List.{List, [], ◌∷◌, ◌++◌, reverse, reverse-cons}
use Prim.Native.Nat.{ℕ, zero, suc, ◌+◌, ◌-◌, ◌<◌, ◌≤◌}
use native.Mathlib.Nat.{add-zero, add-suc, suc-add, not-suc-le-zero, le_of_suc-le-suc}
use native.Mathlib.Omega.{arith}
use lib.ListN.{length, get_or}
use Rattle.fox_layers.specs.Lists.{numbered}

-- by cases of a test
pub by-test : {P : Type 0} (t : Bool) → (t ≡ true → P) → (t ≡ false → P) → P
by-test true f g = f refl
by-test false f g = g refl

module _ {A : Type 0} where
  pub length-numbered : (k : ℕ → A) (n i : ℕ) → length (numbered k n i) ≡ n
  unfolding numbered
  length-numbered k zero i = refl
  length-numbered k (suc n) i = ap suc (length-numbered k n (suc i))

  pub numbered-at : (k : ℕ → A) (n i j : ℕ) (d : A) → j < n → get_or (numbered k n i) j d ≡ k (i + j)
  unfolding numbered
  numbered-at k zero i j d h = absurd (not-suc-le-zero h)
  numbered-at k (suc n) i zero d h = ap k (sym (add-zero i))
  numbered-at k (suc n) i (suc j) d h = numbered-at k n (suc i) j d (le_of_suc-le-suc h) ∙ ap k (suc-add i j ∙ sym (add-suc i j))

  -- numbers counted from one further on
  pub numbered_next : (k : ℕ → A) (n i : ℕ) → numbered k n (suc i) ≡ numbered (λ (j : ℕ). k (suc j)) n i
  unfolding numbered
  numbered_next k zero i = refl
  numbered_next k (suc n) i = ap (λ (xs : List A). k (suc i) ∷ xs) (numbered_next k n (suc i))

  -- values that agree below the end
  pub numbered-same : (k l : ℕ → A) (n i : ℕ) → ((j : ℕ) → j < i + n → k j ≡ l j) → numbered k n i ≡ numbered l n i
  unfolding numbered
  numbered-same k l zero i e = refl
  numbered-same k l (suc n) i e =
      ap₂ (λ (a : A) (ks : List A). a ∷ ks) (e i (omega arith))
      (numbered-same k l n (suc i) (λ j h. e j (omega arith)))

  pub numbered-snoc : (k : ℕ → A) (n i : ℕ) → numbered k (suc n) i ≡ numbered k n i ++ (k (i + n) ∷ [])
  unfolding numbered
  numbered-snoc k zero i = ap (λ (j : ℕ). k j ∷ []) (sym (add-zero i))
  numbered-snoc k (suc n) i =
      ap (λ (ks : List A). k i ∷ ks) (numbered-snoc k n (suc i) ∙ ap (λ (j : ℕ). numbered k n (suc i) ++ (k j ∷ [])) (suc-add i n ∙ sym (add-suc i n)))

  -- the list read backwards
  pub reverse-numbered : (k : ℕ → A) (n : ℕ) → reverse (numbered k (suc n) 0) ≡ numbered (λ (j : ℕ). k (n - j)) (suc n) 0
  unfolding numbered
  reverse-numbered k zero = refl
  reverse-numbered k (suc n) =
      reverse-cons (k 0) (numbered k (suc n) 1)
      ∙ ap (λ (ks : List A). reverse ks ++ (k 0 ∷ [])) (numbered_next k (suc n) 0)
      ∙ ap (λ (ks : List A). ks ++ (k 0 ∷ [])) (reverse-numbered (λ (j : ℕ). k (suc j)) n)
      ∙ ap₂ (λ (ks : List A) (a : A). ks ++ (a ∷ []))
      (numbered-same (λ (j : ℕ). k (suc (n - j))) (λ (j : ℕ). k (suc n - j)) (suc n) 0
      (λ j h. ap k (omega arith)))
      (ap k (omega arith))
      ∙ sym (numbered-snoc (λ (j : ℕ). k (suc n - j)) (suc n) 0)

  pub reversed : (k : ℕ → A) (m : ℕ) → 1 ≤ m → reverse (numbered k m 0) ≡ numbered (λ (j : ℕ). k (m - 1 - j)) m 0
  reversed k m some =
      let whole : m ≡ suc (m - 1) = omega arith in
      ap (λ (n : ℕ). reverse (numbered k n 0)) whole
      ∙ reverse-numbered k (m - 1)
      ∙ ap (λ (n : ℕ). numbered (λ (j : ℕ). k (m - 1 - j)) n 0) (sym whole)
