-- Bytes read one by one are a part of the list. A block of bytes is the bytes of its words: joining bytes and splitting them again gives the same bytes, word
-- after word. And a part of a slice that reaches to the slice's end has nothing after it.
-- Assumes nothing.
use mathlib.Core.Path.{◌≡◌, refl, sym, ap, ◌∙◌}
use mathlib.Core.List.{List, [], ◌∷◌, ◌++◌, append-nil}
use Prim.Native.Nat.{ℕ, zero, suc, ◌+◌, ◌-◌, ◌≤◌}
use native.Mathlib.Nat.{add-suc, add-zero}
use native.Mathlib.Omega.{arith}
use borrow.Rule.Slice.PartMut.{mid_of, put_mid}
use lib.ListN.{length, take, drop, get_or, length-take, length-drop, take-append-drop, drop_of_length-le}
use lib.Seq.{length-take-le, drop-drop, drop-cons}
use Rattle.fox_layers.specs.Words.{joined, split, Bytes}
use Rattle.fox_layers.proofs.Laws.Words.{split-joined, take-bytes, drop-bytes}

-- the n elements from at + k on, one by one, as code reads them
abbrev window : List ℕ → ℕ → ℕ → ℕ → List ℕ
window l at k zero = []
window l at k (suc n) = get_or l (at + k) 0 ∷ window l at (suc k) n

take-window : (l : List ℕ) (at k n : ℕ) → at + k + n ≤ length l → take n (drop (at + k) l) ≡ window l at k n
take-window l at k zero h = refl
take-window l at k (suc n) h =
    rw (drop-cons l (at + k) 0 (omega arith), ← (add-suc at k), take-window l at (suc k) n (omega arith))

pub take-four : (l : List ℕ) (at : ℕ) → at + 4 ≤ length l
    → take 4 (drop at l) ≡ get_or l at 0 ∷ get_or l (at + 1) 0 ∷ get_or l (at + 2) 0 ∷ get_or l (at + 3) 0 ∷ []
take-four l at h = rw (add-zero at) at (take-window l at 0 4 (omega arith))

pub take-eight : (l : List ℕ) (at : ℕ) → at + 8 ≤ length l
    → take 8 (drop at l) ≡ get_or l at 0 ∷ get_or l (at + 1) 0 ∷ get_or l (at + 2) 0 ∷ get_or l (at + 3) 0
    ∷ get_or l (at + 4) 0 ∷ get_or l (at + 5) 0 ∷ get_or l (at + 6) 0 ∷ get_or l (at + 7) 0 ∷ []
take-eight l at h = rw (add-zero at) at (take-window l at 0 8 (omega arith))

-- a word joined from eight bytes has these bytes
pub word_of : (r : ℕ) (xs : List ℕ) → Bytes xs → length xs ≡ 8 → r ≡ joined xs → split 8 r ≡ xs
word_of r xs h n e = ap (split 8) e ∙ ap (λ (k : ℕ). split k (joined xs)) (sym n) ∙ split-joined xs h

-- n bytes at the front of a list, as the word that they join to
pub front-word : (n : ℕ) (bs : List ℕ) → Bytes bs → n ≤ length bs → split n (joined (take n bs)) ++ drop n bs ≡ bs
front-word n bs h l =
    let e : split n (joined (take n bs)) ≡ take n bs =
    ap (λ (k : ℕ). split k (joined (take n bs))) (sym (length-take-le n bs l))
    ∙ split-joined (take n bs) (take-bytes n bs h) in
    ap (λ (xs : List ℕ). xs ++ drop n bs) e ∙ take-append-drop n bs

pub last_word : (n : ℕ) (bs : List ℕ) → Bytes bs → length bs ≡ n → split n (joined (take n bs)) ≡ bs
last_word n bs h l =
    let w = split n (joined (take n bs)) in
    let none : drop n bs ≡ [] = drop_of_length-le bs {i = n} (omega arith) in
    sym (append-nil w) ∙ ap (λ (xs : List ℕ). w ++ xs) (sym none) ∙ front-word n bs h (omega arith)

pub words-8 : (bs : List ℕ) → Bytes bs → length bs ≡ 8 → bs ≡ split 4 (joined (take 4 bs)) ++ split 4 (joined (take 4 (drop 4 bs)))
words-8 bs h l =
    let rest : length (drop 4 bs) ≡ 4 = rw (length-drop 4 bs, l) in
    sym (ap (λ (xs : List ℕ). split 4 (joined (take 4 bs)) ++ xs) (last_word 4 (drop 4 bs) (drop-bytes 4 bs h) rest)
    ∙ front-word 4 bs h (omega arith))

-- sixteen bytes, as the bytes of their four words
pub words-16 : (bs : List ℕ) → Bytes bs → length bs ≡ 16
    → bs ≡ split 4 (joined (take 4 bs)) ++ split 4 (joined (take 4 (drop 4 bs)))
    ++ split 4 (joined (take 4 (drop 8 bs))) ++ split 4 (joined (take 4 (drop 12 bs)))
unfolding split
words-16 bs h l =
    let w : List ℕ → List ℕ = λ xs. split 4 (joined (take 4 xs)) in
    let rest : length (drop 8 bs) ≡ 8 = rw (length-drop 8 bs, l) in
    let second : w (drop 4 bs) ++ drop 8 bs ≡ drop 4 bs =
    ap (λ (xs : List ℕ). w (drop 4 bs) ++ xs) (sym (drop-drop 4 4 bs))
    ∙ front-word 4 (drop 4 bs) (drop-bytes 4 bs h) (rw (length-drop 4 bs) (omega arith)) in
    let last : w (drop 8 bs) ++ w (drop 12 bs) ≡ drop 8 bs =
    ap (λ (xs : List ℕ). w (drop 8 bs) ++ w xs) (sym (drop-drop 4 8 bs))
    ∙ sym (words-8 (drop 8 bs) (drop-bytes 8 bs h) rest) in
    sym (ap (λ (xs : List ℕ). w bs ++ (w (drop 4 bs) ++ xs)) last
    ∙ ap (λ (xs : List ℕ). w bs ++ xs) second ∙ front-word 4 bs h (omega arith))

-- a list that is written over from place k to its end
pub put-end : (k : ℕ) (l p : List ℕ) → put_mid k (length l - k) l p ≡ take k l ++ p
put-end k l p =
    let none : drop (length l - k) (drop k l) ≡ [] = drop_of_length-le (drop k l) {i = length l - k} (rw (length-drop k l) (omega arith)) in
    ap (λ (xs : List ℕ). take k l ++ (p ++ xs)) none ∙ ap (λ (xs : List ℕ). take k l ++ xs) (append-nil p)

-- the part from k to the end of a list of k + n elements has no more than n
pub end-spent : (k n : ℕ) (l : List ℕ) → length l ≡ k + n → drop n (mid_of k (length l - k) l) ≡ []
end-spent k n l e =
    drop_of_length-le (mid_of k (length l - k) l) {i = n} (simp (length-take, length-drop) (omega arith))
