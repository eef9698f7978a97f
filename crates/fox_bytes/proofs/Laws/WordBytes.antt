-- Words as the bytes of one after the other: how many there are, and one word more.
-- Assumes nothing.
use Rattle.std.proofs.Common.{◌≡◌, refl, sym, ap, ◌∙◌, ℕ, ◌+◌, ◌*◌, ◌<◌, List, [], ◌∷◌, ◌++◌, append_assoc, length, take, get_or, arith, add-one, length-append}
use mathlib.Core.List.{append-nil}
use native.Mathlib.Nat.{zero-mul, add-mul, one-mul}
use lib.Seq.{take-suc}
use Rattle.fox_layers.specs.Words.{split}
use Rattle.fox_layers.proofs.Laws.Words.{length-split}
use Rattle.fox_bytes.specs.WordBytes.{word_bytes}

pub length-word_bytes : (n : ℕ) (ws : List ℕ) → length (word_bytes n ws) ≡ length ws * n
unfolding word_bytes
length-word_bytes n [] = sym (zero-mul n)
length-word_bytes n (w ∷ ws) = rw (length-append, length-split, length-word_bytes n ws) (omega (arith, one-mul n, add-mul 1 (length ws) n))

pub word_bytes-more : (n : ℕ) (ws : List ℕ) (w : ℕ) → word_bytes n (ws ++ w ∷ []) ≡ word_bytes n ws ++ split n w
unfolding word_bytes
word_bytes-more n [] w = append-nil (split n w)
word_bytes-more n (v ∷ vs) w = rw (word_bytes-more n vs w) (sym (append_assoc (split n v) (word_bytes n vs) (split n w)))

pub word_bytes_next : (n : ℕ) (ws : List ℕ) (i : ℕ) → i < length ws → word_bytes n (take (i + 1) ws) ≡ word_bytes n (take i ws) ++ split n (get_or ws i 0)
word_bytes_next n ws i h =
    ap (λ (k : ℕ). word_bytes n (take k ws)) (add-one i)
    ∙ ap (word_bytes n) (take-suc ws i 0 h)
    ∙ word_bytes-more n (take i ws) (get_or ws i 0)

-- two and four words of four bytes
pub word_bytes-2 : (a b : ℕ) → word_bytes 4 (a ∷ b ∷ []) ≡ split 4 a ++ split 4 b
unfolding word_bytes split
word_bytes-2 a b = refl

pub word_bytes-4 : (a b c d : ℕ) → word_bytes 4 (a ∷ b ∷ c ∷ d ∷ []) ≡ split 4 a ++ split 4 b ++ split 4 c ++ split 4 d
unfolding word_bytes split
word_bytes-4 a b c d = refl
