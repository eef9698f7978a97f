-- XOR is associative and commutative, and undoes itself. These are laws of binary digits, proved by induction on the halves of a number.
-- Assumes nothing.
use mathlib.Core.Path.{◌≡◌, refl, sym, ap, ap₂, ◌∙◌}
use mathlib.Core.List.{List, [], ◌∷◌}
use Prim.Native.Nat.{ℕ, zero, suc, ◌/◌, ◌%◌, ◌<◌}
use native.Mathlib.Omega.{arith}
use lib.Arith.{bin_ind}
use lib.Bits.{xor_shr, xor_mod, xor_zero_l, xor_zero_r, xor_self}
use Rattle.fox_layers.specs.Words.{◌⊕◌, xor_all, xor_over}
pub use lib.Bits.{xor_comm, xor_zero_l as zero_xor, xor_zero_r as xor-zero, xor_self as xor_same, xor_lt}

-- a number below two is 0 or 1, so the law of one digit has eight cases, which are computed
digit_assoc : (x y z : ℕ) → x < 2 → y < 2 → z < 2 → (x ⊕ y) ⊕ z ≡ x ⊕ y ⊕ z
digit_assoc zero y z hx hy hz = refl
digit_assoc (suc zero) zero z hx hy hz = refl
digit_assoc (suc zero) (suc zero) zero hx hy hz = refl
digit_assoc (suc zero) (suc zero) (suc zero) hx hy hz = refl
digit_assoc (suc zero) (suc zero) (suc (suc z)) hx hy hz = absurd (omega arith)
digit_assoc (suc zero) (suc (suc y)) z hx hy hz = absurd (omega arith)
digit_assoc (suc (suc x)) y z hx hy hz = absurd (omega arith)

-- both brackets have the same lowest digit, and the same half, by the law for the halves
low-assoc : (a b c : ℕ) → ((a ⊕ b) ⊕ c) % 2 ≡ (a ⊕ b ⊕ c) % 2
low-assoc a b c =
    cc (xor_mod (a ⊕ b) c 1, xor_mod a b 1, xor_mod a (b ⊕ c) 1, xor_mod b c 1, digit_assoc (a % 2) (b % 2) (c % 2) (omega arith) (omega arith) (omega arith))

half-assoc : (a b c : ℕ) → (a / 2 ⊕ b / 2) ⊕ c / 2 ≡ a / 2 ⊕ b / 2 ⊕ c / 2 → ((a ⊕ b) ⊕ c) / 2 ≡ (a ⊕ b ⊕ c) / 2
half-assoc a b c ih = cc (xor_shr (a ⊕ b) c 1, xor_shr a b 1, xor_shr a (b ⊕ c) 1, xor_shr b c 1)

pub xor_assoc : (a b c : ℕ) → (a ⊕ b) ⊕ c ≡ a ⊕ b ⊕ c
xor_assoc =
    bin_ind (λ (a : ℕ). (b c : ℕ) → (a ⊕ b) ⊕ c ≡ a ⊕ b ⊕ c) (λ b c. refl)
    (λ a ih b c. omega (arith, half-assoc a b c (ih (b / 2) (c / 2)), low-assoc a b c))

-- XOR twice with the same number changes nothing
pub xor-cancel : (a b : ℕ) → a ⊕ a ⊕ b ≡ b
xor-cancel a b = sym (xor_assoc a a b) ∙ ap (λ (n : ℕ). n ⊕ b) (xor_self a) ∙ xor_zero_l b

pub xor-cancel-right : (a b : ℕ) → (a ⊕ b) ⊕ b ≡ a
xor-cancel-right a b = xor_assoc a b b ∙ ap (λ (n : ℕ). a ⊕ n) (xor_self b) ∙ xor_zero_r a

pub xor-left-comm : (a b c : ℕ) → a ⊕ b ⊕ c ≡ b ⊕ a ⊕ c
xor-left-comm a b c = sym (xor_assoc a b c) ∙ ap (λ (n : ℕ). n ⊕ c) (xor_comm a b) ∙ xor_assoc b a c

-- two XORs of two, with the inner numbers exchanged
pub xor-medial : (a b c d : ℕ) → (a ⊕ b) ⊕ c ⊕ d ≡ (a ⊕ c) ⊕ b ⊕ d
xor-medial a b c d =
    xor_assoc a b (c ⊕ d) ∙ ap (λ (n : ℕ). a ⊕ n) (xor-left-comm b c d) ∙ sym (xor_assoc a c (b ⊕ d))

-- an XOR computed from the left, as code does it, is the XOR of the list
abbrev pub running : ℕ → List ℕ → ℕ
running a [] = a
running a (x ∷ xs) = running (a ⊕ x) xs

pub running-xor_all : (a : ℕ) (xs : List ℕ) → running a xs ≡ a ⊕ xor_all xs
unfolding xor_all
running-xor_all a [] = sym (xor_zero_r a)
running-xor_all a (x ∷ xs) = running-xor_all (a ⊕ x) xs ∙ xor_assoc a x (xor_all xs)

infixr 40 ◌▸◌
-- the numbers of the third list are f's values at the pairs of the first two
pub data Terms {A : Type 0} (f : A → ℕ → ℕ) : List A → List ℕ → List ℕ → Type 0 where
  done : Terms f [] [] []
  ◌▸◌ : {m : A} {x y : ℕ} {ms : List A} {xs ys : List ℕ} → y ≡ f m x → Terms f ms xs ys → Terms f (m ∷ ms) (x ∷ xs) (y ∷ ys)

pub terms-xor_over : {A : Type 0} {f : A → ℕ → ℕ} {ms : List A} {xs ys : List ℕ} → Terms f ms xs ys → xor_all ys ≡ xor_over f ms xs
unfolding xor_all xor_over
terms-xor_over done = refl
terms-xor_over (e ▸ es) = ap₂ (λ (a b : ℕ). a ⊕ b) e (terms-xor_over es)

-- a number that is the XOR of such a list
pub xor_over-of-terms : {A : Type 0} {f : A → ℕ → ℕ} {ms : List A} {xs ys : List ℕ} {r : ℕ} → r ≡ xor_all ys → Terms f ms xs ys → r ≡ xor_over f ms xs
xor_over-of-terms e es = e ∙ terms-xor_over es

-- such an XOR computed from the left
pub running-terms : {A : Type 0} {f : A → ℕ → ℕ} {ms : List A} {xs ys : List ℕ} {y : ℕ} → Terms f ms xs (y ∷ ys) → running y ys ≡ xor_over f ms xs
unfolding xor_all
running-terms {ys} {y} es = running-xor_all y ys ∙ terms-xor_over es
