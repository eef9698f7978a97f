-- A matrix product is the XOR of the matrix's columns, each times its byte: row by row, the first byte's products are split off as a column.
-- Assumes nothing.
use mathlib.Core.Path.{◌≡◌, refl, sym, ◌∙◌}
use mathlib.Core.List.{List, [], ◌∷◌, map}
use Prim.Native.Nat.{ℕ, suc, ◌+◌, ◌≤◌, ◌<◌}
use native.Mathlib.Nat.{zero-lt-suc}
use native.Mathlib.Omega.{arith}
use lib.ListN.{length, drop, length-map}
use lib.Seq.{drop-cons}
use Rattle.fox_layers.specs.Words.{Bytes, xor_each, xor_over}
use Rattle.fox_layers.specs.Field.{product}
use Rattle.fox_layers.specs.Diffusion.{dot, times}
use Rattle.fox_layers.specs.Tables.{column}
use Rattle.fox_layers.proofs.Laws.Words.{length-xor_each, map-bytes, xor_each-bytes}
use Rattle.fox_layers.proofs.Laws.Field.{product_lt}

-- each row of a matrix has n entries
abbrev pub Wide : ℕ → List (List ℕ) → Type 0
Wide n [] = Unit {0}
Wide n (row ∷ rows) = (length row ≡ n) × Wide n rows

-- a column times one byte
abbrev pub multiple : List ℕ → ℕ → List ℕ
multiple ms x = map (λ (m : ℕ). product m x) ms

-- the XOR of the columns from number j on, each times its byte
unfoldable pub columns : List (List ℕ) → ℕ → List ℕ → List ℕ
columns rows j [] = map (λ (row : List ℕ). 0) rows
columns rows j (x ∷ xs) = xor_each (multiple (column j rows) x) (columns rows (suc j) xs)

-- the product with the rest of each row from entry j on
from : List (List ℕ) → ℕ → List ℕ → List ℕ
from rows j xs = map (λ (row : List ℕ). dot (drop j row) xs) rows

dot-nil : (ms : List ℕ) → dot ms [] ≡ 0
unfolding dot xor_over
dot-nil [] = refl
dot-nil (m ∷ ms) = refl

from-nil : (rows : List (List ℕ)) (j : ℕ) → from rows j [] ≡ map (λ (row : List ℕ). 0) rows
unfolding from
from-nil [] j = refl
from-nil (row ∷ rows) j = cc (dot-nil (drop j row), from-nil rows j)

from_cons : (rows : List (List ℕ)) (n j x : ℕ) (xs : List ℕ) → Wide n rows → j < n
    → from rows j (x ∷ xs) ≡ xor_each (multiple (column j rows) x) (from rows (suc j) xs)
unfolding from dot xor_over xor_each column
from_cons [] n j x xs w h = refl
from_cons (row ∷ rows) n j x xs w h =
    rw (drop-cons row j 0 (omega (arith, w.0)), from_cons rows n j x xs w.1 h)

from-columns : (rows : List (List ℕ)) (n j : ℕ) (xs : List ℕ) → Wide n rows → j + length xs ≤ n → from rows j xs ≡ columns rows j xs
unfolding columns
from-columns rows n j [] w h = from-nil rows j
from-columns rows n j (x ∷ xs) w h = rw (from_cons rows n j x xs w (omega arith), from-columns rows n (suc j) xs w (omega arith))

pub times-columns : (rows : List (List ℕ)) (n : ℕ) (xs : List ℕ) → Wide n rows → length xs ≡ n → times rows xs ≡ columns rows 0 xs
unfolding times from
times-columns rows n xs w e = from-columns rows n 0 xs w (omega arith)

-- such an XOR has an entry for each row, and its entries are bytes
pub length-columns : (rows : List (List ℕ)) (j : ℕ) (xs : List ℕ) → length (columns rows j xs) ≡ length rows
unfolding columns column
length-columns rows j [] = length-map rows (λ (row : List ℕ). 0)
length-columns rows j (x ∷ xs) =
    let same : length (multiple (column j rows) x) ≡ length rows = simp length-map in
    length-xor_each (multiple (column j rows) x) (columns rows (suc j) xs) (same ∙ sym (length-columns rows (suc j) xs)) ∙ same

pub columns-bytes : (rows : List (List ℕ)) (j : ℕ) (xs : List ℕ) → Bytes xs → Bytes (columns rows j xs)
unfolding columns
columns-bytes rows j [] h = map-bytes (λ (row : List ℕ). 0) (λ row. zero-lt-suc 255) rows
columns-bytes rows j (x ∷ xs) h =
    xor_each-bytes (multiple (column j rows) x) (columns rows (suc j) xs) (map-bytes (λ (m : ℕ). product m x) (λ m. product_lt m x (h 0)) (column j rows))
    (columns-bytes rows (suc j) xs (λ i. h (suc i)))
