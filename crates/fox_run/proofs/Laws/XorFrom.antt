-- Bytes XORed with those of any stream: they may be cut and joined at any byte, and XORed twice they are the bytes again. Each law is an induction on the
-- bytes, since each byte of the XOR depends on its own place alone.
-- Assumes nothing.
use mathlib.Core.Path.{◌≡◌, refl, sym, ap, ap₂, ◌∙◌}
use mathlib.Core.List.{List, [], ◌∷◌, ◌++◌}
use Prim.Native.Nat.{ℕ, zero, suc, ◌+◌, ◌<◌}
use native.Mathlib.Nat.{add-zero}
use native.Mathlib.Omega.{arith}
use lib.ListN.{length, get_or, take, drop}
use Rattle.fox_layers.specs.Words.{◌⊕◌}
use Rattle.fox_layers.proofs.Laws.Xor.{xor-cancel}
use Rattle.fox_run.specs.Run.{xor_from}

cons : {x y : ℕ} {xs ys : List ℕ} → x ≡ y → xs ≡ ys → x ∷ xs ≡ y ∷ ys
cons e es = ap₂ (λ (z : ℕ) (zs : List ℕ). z ∷ zs) e es

pub xor_from-same : (f g : ℕ → ℕ) (n : ℕ) (ds : List ℕ) → ((i : ℕ) → f i ≡ g i) → xor_from f n ds ≡ xor_from g n ds
unfolding xor_from
xor_from-same f g n [] h = refl
xor_from-same f g n (d ∷ ds) h = cons (ap (λ (s : ℕ). s ⊕ d) (h n)) (xor_from-same f g (suc n) ds h)

module _ (f : ℕ → ℕ) where
  -- from an equal place on
  pub xor_from-from : {m n : ℕ} (ds : List ℕ) → m ≡ n → xor_from f m ds ≡ xor_from f n ds
  xor_from-from ds e = ap (λ (k : ℕ). xor_from f k ds) e

  pub length-xor_from : (n : ℕ) (ds : List ℕ) → length (xor_from f n ds) ≡ length ds
  unfolding xor_from
  length-xor_from n [] = refl
  length-xor_from n (d ∷ ds) = ap suc (length-xor_from (suc n) ds)

  -- one byte of the XOR
  pub xor_from-at : (n : ℕ) (ds : List ℕ) (i : ℕ) → i < length ds → get_or (xor_from f n ds) i 0 ≡ f (n + i) ⊕ get_or ds i 0
  unfolding xor_from
  xor_from-at n [] i h = absurd (omega arith)
  xor_from-at n (d ∷ ds) zero h = ap (λ (k : ℕ). f k ⊕ d) (sym (add-zero n))
  xor_from-at n (d ∷ ds) (suc i) h =
      let here : suc n + i ≡ n + suc i = omega arith in
      xor_from-at (suc n) ds i (omega arith) ∙ ap (λ (k : ℕ). f k ⊕ get_or ds i 0) here

  pub xor_from-append : (n : ℕ) (xs ys : List ℕ) → xor_from f n (xs ++ ys) ≡ xor_from f n xs ++ xor_from f (n + length xs) ys
  unfolding xor_from
  xor_from-append n [] ys = xor_from-from ys (sym (add-zero n))
  xor_from-append n (x ∷ xs) ys =
      cons refl (xor_from-append (suc n) xs ys ∙ ap (λ (zs : List ℕ). xor_from f (suc n) xs ++ zs) (xor_from-from ys (omega arith)))

  pub xor_from-twice : (n : ℕ) (ds : List ℕ) → xor_from f n (xor_from f n ds) ≡ ds
  unfolding xor_from
  xor_from-twice n [] = refl
  xor_from-twice n (d ∷ ds) = cons (xor-cancel (f n) d) (xor_from-twice (suc n) ds)

  pub xor_from-take : (n m : ℕ) (ds : List ℕ) → take m (xor_from f n ds) ≡ xor_from f n (take m ds)
  unfolding xor_from
  xor_from-take n zero ds = refl
  xor_from-take n (suc m) [] = refl
  xor_from-take n (suc m) (d ∷ ds) = cons refl (xor_from-take (suc n) m ds)

  pub xor_from-drop : (n k : ℕ) (ds : List ℕ) → drop k (xor_from f n ds) ≡ xor_from f (n + k) (drop k ds)
  unfolding xor_from
  xor_from-drop n zero ds = xor_from-from ds (sym (add-zero n))
  xor_from-drop n (suc k) [] = refl
  xor_from-drop n (suc k) (d ∷ ds) = xor_from-drop (suc n) k ds ∙ xor_from-from (drop k ds) (omega arith)

  pub xor_from-part : (n k m : ℕ) (ds : List ℕ) → take m (drop k (xor_from f n ds)) ≡ xor_from f (n + k) (take m (drop k ds))
  xor_from-part n k m ds = ap (λ (xs : List ℕ). take m xs) (xor_from-drop n k ds) ∙ xor_from-take (n + k) m (drop k ds)
