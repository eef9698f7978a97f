-- XOR of two lists place by place, up to the end of the shorter: its length, its places, and the XOR computed part by part.
-- Assumes nothing.
use mathlib.Core.Path.{◌≡◌, refl, sym, ap, ap₂, ◌∙◌}
use mathlib.Core.Logic.{◌⊎◌, inl, inr}
use mathlib.Core.List.{List, [], ◌∷◌, ◌++◌, append_assoc}
use Prim.Native.Nat.{ℕ, zero, suc, ◌+◌, ◌-◌, ◌≤◌, ◌<◌, min}
use native.Mathlib.Nat.{not-suc-le-zero, le_of_suc-le-suc}
use native.Mathlib.Numerals.{add-one}
use native.Mathlib.Omega.{arith}
use borrow.Rule.Slice.PartMut.{mid_of, put_mid}
use lib.ListN.{length, take, drop, get_or, set, length-drop, drop_of_length-le}
use lib.Seq.{take-suc, drop-cons, set_at, length-take-le, append_snoc, take_all, take_at, drop_at, drop-drop}
use lib.Seq.{get_or-append-add, get_or-drop, set_split}
use Rattle.fox_layers.specs.Words.{◌⊕◌, joined, split, Bytes, xor_each}
use Rattle.fox_layers.proofs.Laws.Words.{split-joined, split-xor, take-bytes, drop-bytes}
use Rattle.fox_bytes.proofs.Laws.WordsInBytes.{put-end}

pub length-xor_each-min : (xs ys : List ℕ) → length (xor_each xs ys) ≡ min (length xs) (length ys)
unfolding xor_each
length-xor_each-min [] ys = omega arith
length-xor_each-min (x ∷ xs) [] = omega arith
length-xor_each-min (x ∷ xs) (y ∷ ys) = omega (arith, length-xor_each-min xs ys)

pub take-xor_each : (xs ys : List ℕ) → take (length (xor_each xs ys)) ys ≡ take (length xs) ys
unfolding xor_each
take-xor_each [] ys = refl
take-xor_each (x ∷ xs) [] = refl
take-xor_each (x ∷ xs) (y ∷ ys) = ap (λ (zs : List ℕ). y ∷ zs) (take-xor_each xs ys)

pub get_or-xor_each : (xs ys : List ℕ) (i : ℕ) → i < length xs → i < length ys → get_or (xor_each xs ys) i 0 ≡ get_or xs i 0 ⊕ get_or ys i 0
unfolding xor_each
get_or-xor_each [] ys i g h = absurd (not-suc-le-zero g)
get_or-xor_each (x ∷ xs) [] i g h = absurd (not-suc-le-zero h)
get_or-xor_each (x ∷ xs) (y ∷ ys) zero g h = refl
get_or-xor_each (x ∷ xs) (y ∷ ys) (suc i) g h = get_or-xor_each xs ys i (le_of_suc-le-suc g) (le_of_suc-le-suc h)

-- the first list in two parts
xor_each-parts : (xs ys zs : List ℕ) → length xs ≤ length zs → xor_each (xs ++ ys) zs ≡ xor_each xs zs ++ xor_each ys (drop (length xs) zs)
unfolding xor_each
xor_each-parts [] ys zs h = refl
xor_each-parts (x ∷ xs) ys [] h = absurd (not-suc-le-zero h)
xor_each-parts (x ∷ xs) ys (z ∷ zs) h = ap (λ (l : List ℕ). (x ⊕ z) ∷ l) (xor_each-parts xs ys zs (le_of_suc-le-suc h))

pub xor_each-append : (xs ys zs : List ℕ) (n : ℕ) → length xs ≡ n → n ≤ length zs → xor_each (xs ++ ys) zs ≡ xor_each xs zs ++ xor_each ys (drop n zs)
xor_each-append xs ys zs n e h = xor_each-parts xs ys zs (omega arith) ∙ ap (λ (m : ℕ). xor_each xs zs ++ xor_each ys (drop m zs)) e

-- of the second list only as many places count as the first one has
pub xor_each-take : (xs ys : List ℕ) → xor_each xs (take (length xs) ys) ≡ xor_each xs ys
unfolding xor_each
xor_each-take [] ys = refl
xor_each-take (x ∷ xs) [] = refl
xor_each-take (x ∷ xs) (y ∷ ys) = ap (λ (l : List ℕ). (x ⊕ y) ∷ l) (xor_each-take xs ys)

-- a list written over the front of another, one place more
pub written_next : (s os now : List ℕ) (i : ℕ) → i < length s → length s ≤ length os → now ≡ take i s ++ drop i os
    → set now i (get_or s i 0) ≡ take (i + 1) s ++ drop (i + 1) os
written_next s os now i h l e =
    ap (λ (xs : List ℕ). set xs i (get_or s i 0)) (e ∙ ap (λ (xs : List ℕ). take i s ++ xs) (drop-cons os i 0 (omega arith)))
    ∙ set_at (take i s) (get_or os i 0) (drop (suc i) os) (get_or s i 0) i (length-take-le i s (omega arith))
    ∙ sym (append_snoc (take i s) (get_or s i 0) (drop (suc i) os))
    ∙ ap (λ (xs : List ℕ). xs ++ drop (suc i) os) (sym (take-suc s i 0 h))
    ∙ ap (λ (j : ℕ). take j s ++ drop j os) (sym (add-one i))

-- the XOR of two lists is as long as the shorter
pub shorter-xor_each : (xs ys : List ℕ) (n : ℕ) → n ≤ length xs → n ≤ length ys → (n ≡ length xs) ⊎ (n ≡ length ys) → n ≡ length (xor_each xs ys)
shorter-xor_each xs ys n g h (inl e) = omega (arith, length-xor_each-min xs ys)
shorter-xor_each xs ys n g h (inr e) = omega (arith, length-xor_each-min xs ys)

-- a word XORed with the word that four bytes join to has the XOR of their bytes
pub word-xored : (w v k : ℕ) (ds : List ℕ) → Bytes ds → k + 4 ≤ length ds → v ≡ joined (take 4 (drop k ds)) → split 4 (w ⊕ v) ≡ xor_each (split 4 w) (drop k ds)
unfolding split
word-xored w v k ds h l e =
    let four : length (take 4 (drop k ds)) ≡ 4 = length-take-le 4 (drop k ds) (rw (length-drop k ds) (omega arith)) in
    ap (λ (u : ℕ). split 4 (w ⊕ u)) e
    ∙ split-xor 4 w (joined (take 4 (drop k ds)))
    ∙ ap (λ (xs : List ℕ). xor_each (split 4 w) xs)
    (ap (λ (n : ℕ). split n (joined (take 4 (drop k ds)))) (sym four)
    ∙ split-joined (take 4 (drop k ds)) (take-bytes 4 (drop k ds) (drop-bytes k ds h)))
    ∙ xor_each-take (split 4 w) (drop k ds)

-- a list written over the front of another, and a second one written after it
pub xored_to-after : (a b : ℕ) (xs ys os l p : List ℕ) → length xs ≡ a → l ≡ xs ++ drop a os → p ≡ ys ++ drop b (mid_of a (length l - a) l)
    → put_mid a (length l - a) l p ≡ (xs ++ ys) ++ drop (a + b) os
xored_to-after a b xs ys os l p n e f =
    let rest : drop a l ≡ drop a os = ap (λ (m : List ℕ). drop a m) e ∙ drop_at xs (drop a os) a n in
    let mid : mid_of a (length l - a) l ≡ drop a os = take_all (length l - a) (drop a l) (rw (length-drop a l) (omega arith)) ∙ rest in
    put-end a l p
    ∙ ap₂ (λ (m q : List ℕ). m ++ q) (ap (λ (m : List ℕ). take a m) e ∙ take_at xs (drop a os) a n)
    (f ∙ ap (λ (m : List ℕ). ys ++ m) (ap (λ (m : List ℕ). drop b m) mid ∙ drop-drop b a os))
    ∙ sym (append_assoc xs ys (drop (a + b) os))

-- what is not written over yet is as it was
pub written-not-yet : (s os now : List ℕ) (i k : ℕ) → i ≤ length s → now ≡ take i s ++ drop i os → get_or now (i + k) 0 ≡ get_or os (i + k) 0
written-not-yet s os now i k h e =
    ap (λ (l : List ℕ). get_or l (i + k) 0) e
    ∙ ap (λ (j : ℕ). get_or (take i s ++ drop i os) (j + k) 0) (sym (length-take-le i s h))
    ∙ get_or-append-add (take i s) (drop i os) k 0
    ∙ get_or-drop i os k 0

-- the last place, written over with any number
pub written_last : (s os now : List ℕ) (n v : ℕ) → length s ≡ suc n → length os ≡ suc n → now ≡ take n s ++ drop n os → set now n v ≡ set s n v
written_last s os now n v es eo e =
    let end : (l : List ℕ) → length l ≡ suc n → drop (suc n) l ≡ [] = λ l m. drop_of_length-le l {i = suc n} (omega arith) in
    ap (λ (l : List ℕ). set l n v) (e ∙ ap (λ (l : List ℕ). take n s ++ l) (drop-cons os n 0 (omega arith)))
    ∙ set_at (take n s) (get_or os n 0) (drop (suc n) os) v n (length-take-le n s (omega arith))
    ∙ ap (λ (l : List ℕ). take n s ++ v ∷ l) (end os eo ∙ sym (end s es))
    ∙ sym (set_split s n v (omega arith))
