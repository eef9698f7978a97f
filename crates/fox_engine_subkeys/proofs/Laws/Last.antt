-- The last block with its subkey, as code makes it in place: the doubled block XORed with what there is of the message, and, where that is not a whole block,
-- with 80 after it.
-- Assumes nothing.
use mathlib.Core.Path.{◌≡◌, refl, sym, ap, ap₂, ◌∙◌}
use mathlib.Core.List.{List, [], ◌∷◌, ◌++◌, append-nil}
use Prim.Native.Nat.{ℕ, suc, ◌-◌, ◌<◌, ◌≤◌}
use native.Mathlib.Nat.{not-suc-le-zero, le_of_suc-le-suc}
use native.Mathlib.Omega.{arith}
use lib.Dec.{eqb}
use lib.ListN.{length, drop, get_or, set, replicate, drop_of_length-le}
use borrow.Author.Tests.{eq-eqb, ne_eqb}
use Rattle.fox_layers.specs.Words.{◌⊕◌, xor_each}
use Rattle.fox_layers.proofs.Laws.Xor.{xor-zero}
use Rattle.fox_tag.specs.Cmac.{subkey_of, filled, keyed_block}

xor-zeros : (xs : List ℕ) → xor_each xs (replicate (length xs) 0) ≡ xs
unfolding xor_each
xor-zeros [] = refl
xor-zeros (x ∷ xs) = ap₂ (λ (y : ℕ) (ys : List ℕ). y ∷ ys) (xor-zero x) (xor-zeros xs)

-- XOR with bytes, 80 and zeros
xor-filled : (xs part : List ℕ) (b : ℕ) → length part < length xs
    → set (xor_each xs part ++ drop (length part) xs) (length part) (get_or (xor_each xs part ++ drop (length part) xs) (length part) 0 ⊕ b)
    ≡ xor_each xs (part ++ (b ∷ replicate (length xs - 1 - length part) 0))
unfolding xor_each
xor-filled [] part b h = absurd (not-suc-le-zero h)
xor-filled (x ∷ xs) [] b h =
    let rest : suc (length xs) - 1 - 0 ≡ length xs = omega arith in
    ap (λ (l : List ℕ). (x ⊕ b) ∷ l) (sym (xor-zeros xs) ∙ ap (λ (n : ℕ). xor_each xs (replicate n 0)) (sym rest))
xor-filled (x ∷ xs) (p ∷ ps) b h =
    let rest : length xs - 1 - length ps ≡ suc (length xs) - 1 - suc (length ps) = omega arith in
    ap (λ (l : List ℕ). (x ⊕ p) ∷ l)
    (xor-filled xs ps b (le_of_suc-le-suc h) ∙ ap (λ (n : ℕ). xor_each xs (ps ++ (b ∷ replicate n 0))) rest)

-- the last block, from the subkey and the XOR with what there is of the message
module _ (zeros part : List ℕ) {key mixed : List ℕ} (is : key ≡ subkey_of (length zeros) zeros (eqb (length part) (length zeros)))
    (size : length key ≡ length zeros) (e : mixed ≡ xor_each key part ++ drop (length part) key) where
  -- a whole block
  pub keyed-whole : length part ≡ length mixed → length mixed ≡ length key → mixed ≡ keyed_block (length zeros) zeros part
  unfolding keyed_block
  keyed-whole all kept =
      let none : drop (length part) key ≡ [] = drop_of_length-le key {i = length part} (omega arith) in
      e
      ∙ ap (λ (l : List ℕ). xor_each key part ++ l) none
      ∙ append-nil (xor_each key part)
      ∙ ap₂ (λ (k m : List ℕ). xor_each k m) is (sym (simp (eq-eqb (length part) (length zeros) (all ∙ kept ∙ size))))

  -- a block that is not whole
  pub keyed-part : length part ≤ length zeros → (length part ≡ length mixed → ⊥) → length mixed ≡ length key
      → set mixed (length part) (get_or mixed (length part) 0 ⊕ 0x80) ≡ keyed_block (length zeros) zeros part
  unfolding keyed_block filled
  keyed-part fits isnt kept =
      let other : length part ≡ length zeros → ⊥ = λ q. isnt (q ∙ sym (kept ∙ size)) in
      let less : length part < length key = omega arith in
      ap (λ (l : List ℕ). set l (length part) (get_or l (length part) 0 ⊕ 0x80)) e
      ∙ xor-filled key part 0x80 less
      ∙ ap (λ (n : ℕ). xor_each key (part ++ (0x80 ∷ replicate (n - 1 - length part) 0))) size
      ∙ ap₂ (λ (k m : List ℕ). xor_each k m) is (sym (simp (ne_eqb (length part) (length zeros) other)))
