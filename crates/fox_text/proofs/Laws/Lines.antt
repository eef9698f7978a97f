-- Lines and names: a text from a place on, where its first line ends, and the library's words for a prefix and an equal text.
-- Assumes nothing.
use mathlib.Core.Path.{◌≡◌, refl, sym}
use mathlib.Core.List.{List, [], ◌∷◌}
use mathlib.Core.Bool.{false, and-false}
use Prim.Native.Nat.{ℕ, ◌+◌, ◌≤◌, ◌<◌}
use native.Mathlib.Numerals.{add-one}
use native.Mathlib.Omega.{arith}
use lib.ListN.{length, take, drop, get_or}
use lib.Seq.{drop-cons, length-take-le}
use lib.Dec.{eqb, ltb, eqb-zero-suc, eqb-suc-zero, eqb-suc-suc}
use borrow.Author.Tests.{ltb-false}
use Rattle.std.specs.Prelude.{position, unwrap_or}
use Rattle.std.specs.List.{position_or_len}
use Rattle.std.specs.Cmp.Lexicographic.{pointwise}
use Rattle.std.proofs.lemmas.List.Recursion.{is_position_or_len}
use Rattle.fox_text.specs.Ascii.{starts_with, same}
use Rattle.fox_text.specs.Lines.{line_end, line, Ends}
use Rattle.fox_text.proofs.Laws.Tests.{by-test}

-- a text from place i on is its element there and the rest
pub from-here : (t : List ℕ) (i : ℕ) → i < length t → drop i t ≡ get_or t i 0 ∷ drop (i + 1) t
from-here t i h = rw (add-one i, drop-cons t i 0)

-- a line ends within its text
pub line-end-within : (t : List ℕ) → line_end t ≤ length t
unfolding line_end
line-end-within [] = omega arith
line-end-within (x ∷ xs) =
    let rest = line-end-within xs in
    by-test (eqb x 10) (λ e. rw e (omega arith)) (λ e. rw e (omega arith))

pub ends : {t : List ℕ} {r : ℕ} → r ≡ line_end t → Ends t r
ends {t} {r} e =
    let within = line-end-within t in
    record { is = e; within = omega arith; counts = sym (length-take-le r t (omega arith)) }

pub length-line : (t : List ℕ) → length (line t) ≡ line_end t
length-line t = length-take-le (line_end t) t (line-end-within t)

-- a text shorter than the name does not begin with it
pub starts-short : (a t : List ℕ) → length t < length a → starts_with a t ≡ false
unfolding starts_with
starts-short [] t h = absurd (omega arith)
starts-short (x ∷ xs) [] h = refl
starts-short (x ∷ xs) (y ∷ ys) h = by-test (eqb x y) (λ e. rw e (starts-short xs ys (omega arith))) (λ e. rw e)

-- the library's words for the same: the first line feed, a prefix, and an equal text

line-end-position : (t : List ℕ) → line_end t ≡ position_or_len (λ x. eqb x 10) t
unfolding line_end
line-end-position t = is_position_or_len line_end (λ x. eqb x 10) refl (λ x xs. by-test (eqb x 10) (λ e. rw e refl) (λ e. rw e (omega arith))) t

pub line-end-found : (t : List ℕ) → unwrap_or (position (λ x. eqb x 10) t) (length t) ≡ line_end t
line-end-found t =
    let within = line-end-within t in
    rw (← line-end-position t) (by-test (ltb (line_end t) (length t)) (λ e. rw e refl) (λ e. let past = ltb-false (line_end t) (length t) e in rw e (omega arith)))

pub starts-prefix : (a t : List ℕ) → pointwise eqb a (take (length a) t) ≡ starts_with a t
unfolding starts_with
starts-prefix [] t = refl
starts-prefix (x ∷ xs) [] = refl
starts-prefix (x ∷ xs) (y ∷ ys) = rw (starts-prefix xs ys) refl

pub same-text : (a b : List ℕ) → pointwise eqb a b ≡ same a b
unfolding starts_with
same-text [] [] = refl
same-text [] (y ∷ ys) = rw (eqb-zero-suc (length ys)) refl
same-text (x ∷ xs) [] = rw (eqb-suc-zero (length xs)) refl
same-text (x ∷ xs) (y ∷ ys) =
    let long = eqb-suc-suc (length xs) (length ys) in
    by-test (eqb x y) (λ e. rw (e, same-text xs ys, long) refl) (λ e. rw (e, long) (sym (and-false (eqb (length xs) (length ys)))))
