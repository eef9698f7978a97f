-- XOR of lists of bytes: it can be taken part by part where the parts have equal length, and ends with the first list. The bytes of a key's words.
-- Assumes nothing.
use mathlib.Core.Path.{◌≡◌, refl, sym, ap}
use mathlib.Core.List.{List, [], ◌∷◌, ◌++◌}
use Prim.Native.Nat.{ℕ, ◌+◌, ◌*◌, ◌<◌, ◌≤◌}
use native.Mathlib.Nat.{suc_inj, add-mul, one-mul}
use native.Mathlib.Numerals.{add-one}
use native.Mathlib.Omega.{arith}
use lib.ListN.{length, get_or, take, drop, set}
use lib.Seq.{drop-cons, append_snoc, take-add}
use Rattle.std.proofs.lemmas.List.{drop-set-lt, take_more_set}
use Rattle.fox_layers.specs.Words.{◌⊕◌, split, xor_each}
use Rattle.fox_layers.proofs.Laws.Words.{split-xor, length-split}
pub use Rattle.fox_bytes.proofs.Laws.WordBytes.{length-word_bytes, word_bytes-more}
use Rattle.fox_key_mixing.specs.KeyBytes.{word_bytes}

pub xor_each-append : (xs xs' ys ys' : List ℕ) → length xs ≡ length ys → xor_each (xs ++ xs') (ys ++ ys') ≡ xor_each xs ys ++ xor_each xs' ys'
unfolding xor_each
xor_each-append [] xs' [] ys' e = refl
xor_each-append [] xs' (y ∷ ys) ys' e = absurd (omega arith)
xor_each-append (x ∷ xs) xs' [] ys' e = absurd (omega arith)
xor_each-append (x ∷ xs) xs' (y ∷ ys) ys' e = ap (λ (l : List ℕ). (x ⊕ y) ∷ l) (xor_each-append xs xs' ys ys' (suc_inj e))

pub xor_each-surplus : (xs ys zs : List ℕ) → length xs ≤ length ys → xor_each xs (ys ++ zs) ≡ xor_each xs ys
unfolding xor_each
xor_each-surplus [] ys zs e = refl
xor_each-surplus (x ∷ xs) [] zs e = absurd (omega arith)
xor_each-surplus (x ∷ xs) (y ∷ ys) zs e = ap (λ (l : List ℕ). (x ⊕ y) ∷ l) (xor_each-surplus xs ys zs (omega arith))

-- a loop that XORs place after place of ws with ys: v is stored at place i, and the rest is still to be done
pub xored-step : (ws ys all : List ℕ) (i v : ℕ) → i < length ws → i < length ys → v ≡ get_or ws i 0 ⊕ get_or ys i 0
    → take i ws ++ xor_each (drop i ws) (drop i ys) ≡ all → take (i + 1) (set ws i v) ++ xor_each (drop (i + 1) (set ws i v)) (drop (i + 1) ys) ≡ all
unfolding xor_each
xored-step ws ys all i v hw hy e before =
    rw (take_more_set ws i v hw, drop-set-lt (i + 1) ws i v (omega arith), append_snoc, e, add-one)
    (rw (drop-cons ws i 0 hw, drop-cons ys i 0 hy) at before)

-- a loop that reads word after word from s: w has the bytes of s at its place
pub word_bytes-step : (n : ℕ) (ws s : List ℕ) (i w : ℕ) → i < length ws → split n w ≡ take n (drop (i * n) s)
    → word_bytes n (take i ws) ≡ take (i * n) s → word_bytes n (take (i + 1) (set ws i w)) ≡ take ((i + 1) * n) s
word_bytes-step n ws s i w h e before =
    rw (take_more_set ws i w h, word_bytes-more n (take i ws) w, before, e, add-mul i 1 n, one-mul n) (sym (take-add (i * n) n s))

-- the XOR of words has the XOR of their bytes
pub xor_each-word_bytes : (n : ℕ) (vs ws : List ℕ) → length vs ≤ length ws → word_bytes n (xor_each vs ws) ≡ xor_each (word_bytes n vs) (word_bytes n ws)
unfolding xor_each word_bytes
xor_each-word_bytes n [] ws e = refl
xor_each-word_bytes n (v ∷ vs) [] e = absurd (omega arith)
xor_each-word_bytes n (v ∷ vs) (w ∷ ws) e =
    rw (split-xor n v w, xor_each-word_bytes n vs ws (omega arith))
    (sym (xor_each-append (split n v) (word_bytes n vs) (split n w) (word_bytes n ws) (simp length-split)))
