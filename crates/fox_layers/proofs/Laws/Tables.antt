-- What a lookup gives in an array of tables: in the shifted S-box (TBS) it substitutes, since each entry has a byte of its own; in the joined S-box/diffusion
-- tables (TBSM) it substitutes and diffuses, since the XOR of the entries is the XOR of the matrix's columns.
-- Assumes nothing.
use mathlib.Core.Path.{◌≡◌, refl, sym, ap, ◌∙◌}
use mathlib.Core.List.{List, [], ◌∷◌, map}
use Prim.Native.Nat.{ℕ, zero, suc, ◌+◌, ◌*◌, ◌-◌, ◌/◌, ◌%◌, ◌^◌, ◌<◌}
use native.Mathlib.Nat.{zero-lt-suc, zero-add, div-div-eq-div-mul, div-add-mod'}
use native.Mathlib.Omega.{arith}
use lib.Bits.{xor_shifted}
use lib.ListN.{length, get_or, length-map}
use Rattle.fox_layers.specs.Words.{joined, split, Bytes, xor_over}
use Rattle.fox_layers.specs.Field.{product}
use Rattle.fox_layers.specs.Substitution.{S₁, S₂, S₃, halves, whole, or4, lmid4, lmor4, sbox, sigma}
use Rattle.fox_layers.specs.Diffusion.{diffused, mu4_rows, mu8_rows, mu4, mu8}
use Rattle.fox_layers.specs.Lists.{numbered}
use Rattle.fox_layers.specs.Tables.{table, sbox_table, tables, TBS, column, scaled, tbsm_entry, TBSM, picked}
use Rattle.fox_layers.proofs.Laws.Words.{length-split, split-bytes, split-above, split-joined, joined-xor_each, joined-lt, map-bytes}
use Rattle.fox_layers.proofs.Laws.Field.{product_lt}
use Rattle.fox_layers.proofs.Laws.Lists.{numbered-at, length-numbered}
use Rattle.fox_layers.proofs.Laws.Bytewise.{below, table_at}
use Rattle.fox_layers.proofs.Laws.Matrix.{Wide, multiple, columns, times-columns, length-columns, columns-bytes}

pub sbox-lt : (x : ℕ) → x < 256 → sbox x < 256
unfolding sbox S₁ S₂ S₃ halves whole or4 lmid4 lmor4 table
sbox-lt = below 256 sbox (zero-lt-suc 255) refl

pub map-sbox-bytes : (xs : List ℕ) → Bytes xs → Bytes (map sbox xs)
map-sbox-bytes [] h i = zero-lt-suc 255
map-sbox-bytes (x ∷ xs) h zero = sbox-lt x (h 0)
map-sbox-bytes (x ∷ xs) h (suc i) = map-sbox-bytes xs (λ k. h (suc k)) i

-- a substituted word of n bytes, and its bytes
pub sigma-lt : (n w : ℕ) → sigma n w < 2 ^ (8 * n)
unfolding sigma
sigma-lt n w =
    let same : length (map sbox (split n w)) ≡ n = simp (length-map, length-split) in
    rw same at (joined-lt (map sbox (split n w)) (map-sbox-bytes (split n w) (split-bytes n w)))

pub split-sigma : (n w : ℕ) → split n (sigma n w) ≡ map sbox (split n w)
unfolding sigma
split-sigma n w =
    let same : length (map sbox (split n w)) ≡ n = simp (length-map, length-split) in
    rw same at (split-joined (map sbox (split n w)) (map-sbox-bytes (split n w) (split-bytes n w)))

-- the entries of tables that follow one another
tables-entry : (f : ℕ → ℕ → ℕ) (n i : ℕ) → i < n * 256 → get_or (tables f n) i 0 ≡ f (i / 256) (i % 256)
unfolding tables
tables-entry f n i h = numbered-at _ (n * 256) 0 i 0 h ∙ ap (λ (k : ℕ). f (k / 256) (k % 256)) (zero-add i)

tables-at : (f : ℕ → ℕ → ℕ) (n j x : ℕ) → j < n → x < 256 → get_or (tables f n) (j * 256 + x) 0 ≡ f j x
tables-at f n j x h l =
    let place : (j * 256 + x) / 256 ≡ j = omega arith in
    let byte : (j * 256 + x) % 256 ≡ x = omega arith in
    rw (tables-entry f n (j * 256 + x) (omega arith), place, byte)

length-tables : (f : ℕ → ℕ → ℕ) (n : ℕ) → length (tables f n) ≡ n * 256
unfolding tables
length-tables f n = length-numbered _ (n * 256) 0

pub TBS-entry : (n i : ℕ) → i < n * 256 → get_or (TBS n) i 0 ≡ sbox (i % 256) * 2 ^ (8 * (n - 1 - i / 256))
unfolding TBS
TBS-entry n i h = tables-entry _ n i h

pub length-TBS : (n : ℕ) → length (TBS n) ≡ n * 256
unfolding TBS
length-TBS n = length-tables _ n

pub TBSM-at : (rows : List (List ℕ)) (j x : ℕ) → j < length rows → x < 256 → get_or (TBSM rows) (j * 256 + x) 0 ≡ tbsm_entry rows j x
unfolding TBSM
TBSM-at rows j x h l = tables-at (tbsm_entry rows) (length rows) j x h l

pub length-TBSM : (rows : List (List ℕ)) → length (TBSM rows) ≡ length rows * 256
unfolding TBSM
length-TBSM rows = length-tables (tbsm_entry rows) (length rows)

pub sbox_table-entry : (x : ℕ) → x < 256 → get_or sbox_table x 0 ≡ sbox x
unfolding sbox_table
sbox_table-entry x h = table_at sbox x h

-- the n numbers from j on
abbrev from : ℕ → ℕ → List ℕ
from n j = numbered (λ (i : ℕ). i) n j

-- a lookup of bytes in tables, from table number j on, is the XOR of these tables' functions at the bytes
picked-from : (f : ℕ → ℕ → ℕ) (n j : ℕ) (xs : List ℕ) → Bytes xs → j + length xs ≡ n
    → xor_over (λ (j x : ℕ). get_or (tables f n) (j * 256 + x) 0) (from (length xs) j) xs ≡ xor_over f (from (length xs) j) xs
unfolding xor_over numbered
picked-from f n j [] h e = refl
picked-from f n j (x ∷ xs) h e = rw (tables-at f n j x (omega arith) (h 0), picked-from f n (suc j) xs (λ i. h (suc i)) (omega arith))

picked-tables : (f : ℕ → ℕ → ℕ) (n w : ℕ) → picked n (tables f n) w ≡ xor_over f (from n 0) (split n w)
unfolding picked
picked-tables f n w =
    rw (length-split n w) at (picked-from f n 0 (split n w) (split-bytes n w) (zero-add (length (split n w)) ∙ length-split n w))

-- the S-box shifted to each byte, XORed: the S-box's values joined
shifted-joined : (n j : ℕ) (xs : List ℕ) → Bytes xs → j + length xs ≡ n
    → xor_over (λ (j x : ℕ). sbox x * 2 ^ (8 * (n - 1 - j))) (from (length xs) j) xs ≡ joined (map sbox xs)
unfolding xor_over numbered joined
shifted-joined n j [] h e = refl
shifted-joined n j (x ∷ xs) h e =
    let left : n - 1 - j ≡ length (map sbox xs) = omega (arith, length-map xs sbox) in
    rw (left, shifted-joined n (suc j) xs (λ i. h (suc i)) (omega arith))
    (xor_shifted (sbox x) (8 * length (map sbox xs)) (joined (map sbox xs)) (joined-lt (map sbox xs) (map-sbox-bytes xs (λ i. h (suc i)))))

-- a lookup in the TBS tables is the substitution
pub picked-TBS : (n w : ℕ) → picked n (TBS n) w ≡ sigma n w
unfolding TBS sigma
picked-TBS n w =
    picked-tables _ n w
    ∙ rw (length-split n w) at (shifted-joined n 0 (split n w) (split-bytes n w) (zero-add (length (split n w)) ∙ length-split n w))

-- the substitution of a word in two halves
low_half : (w : ℕ) → sigma 4 (w % 2 ^ 32) ≡ sigma 4 w
unfolding sigma
low_half w =
    cc (split-above 4 (w / 2 ^ 32) (w % 2 ^ 32), div-add-mod' w (2 ^ 32))

both_halves : (w : ℕ) → sigma 4 (w / 2 ^ 32) * 2 ^ 32 + sigma 4 w ≡ sigma 8 w
unfolding sigma joined split
both_halves w =
    let at : (m : ℕ) → sbox (w / 0x100000000 / m % 256) ≡ sbox (w / (0x100000000 * m) % 256) =
    λ m. ap (λ (k : ℕ). sbox (k % 256)) (div-div-eq-div-mul w 0x100000000 m) in
    omega (arith, at 0x1000000, at 0x10000, at 0x100, at 1)

pub sigma-halves : (w : ℕ) → sigma 4 (w / 2 ^ 32) * 2 ^ 32 + sigma 4 (w % 2 ^ 32) ≡ sigma 8 w
sigma-halves w = rw (low_half w) (both_halves w)

pub sigma-parts : (w : ℕ) → (sigma 8 w / 2 ^ 32 ≡ sigma 4 (w / 2 ^ 32)) × (sigma 8 w % 2 ^ 32 ≡ sigma 4 (w % 2 ^ 32))
sigma-parts w =
    let whole = sigma-halves w in
    let below = sigma-lt 4 (w % 2 ^ 32) in
    (omega (arith, whole, below), omega (arith, whole, below))

-- its lowest four bytes, and the lowest of these
pub sigma-low : (w : ℕ) → sigma 8 w % 2 ^ 32 ≡ sigma 4 w
sigma-low w = (sigma-parts w).1 ∙ low_half w

pub sigma-byte : (x : ℕ) → x < 256 → sigma 4 x % 256 ≡ sbox x
unfolding sigma joined split
sigma-byte x h =
    let same : x / 1 % 256 ≡ x = omega arith in
    omega (arith, sbox-lt x h, ap sbox same)

joined-zeros : (rows : List (List ℕ)) → joined (map (λ (row : List ℕ). 0) rows) ≡ 0
unfolding joined
joined-zeros [] = refl
joined-zeros (row ∷ rows) = omega (arith, joined-zeros rows)

tbsm_entry-columns : (rows : List (List ℕ)) (j : ℕ) (xs : List ℕ) → Bytes xs
    → xor_over (tbsm_entry rows) (from (length xs) j) xs ≡ joined (columns rows j (map sbox xs))
unfolding xor_over numbered tbsm_entry scaled column columns
tbsm_entry-columns rows j [] h = sym (joined-zeros rows)
tbsm_entry-columns rows j (x ∷ xs) h =
    let ms = multiple (column j rows) (sbox x) in
    let rest = columns rows (suc j) (map sbox xs) in
    let same : length ms ≡ length rest = simp (length-map, length-columns) in
    let bytes = map-bytes (λ (m : ℕ). product m (sbox x)) (λ m. product_lt m (sbox x) (sbox-lt x (h 0))) (column j rows) in
    let more = columns-bytes rows (suc j) (map sbox xs) (map-sbox-bytes xs (λ i. h (suc i))) in
    rw (tbsm_entry-columns rows (suc j) xs (λ i. h (suc i)), joined-xor_each ms rest bytes more same)

-- a lookup in the TBSM tables of a matrix is the diffusion of the substitution
pub picked-TBSM : (rows : List (List ℕ)) → Wide (length rows) rows → (w : ℕ)
    → picked (length rows) (TBSM rows) w ≡ diffused rows (sigma (length rows) w)
unfolding TBSM diffused
picked-TBSM rows wide w =
    let n = length rows in
    let bs = split n w in
    let many : length (map sbox bs) ≡ n = simp (length-map, length-split) in
    picked-tables (tbsm_entry rows) n w
    ∙ rw (split-sigma n w, times-columns rows n (map sbox bs) wide many)
    (rw (length-split n w) at (tbsm_entry-columns rows 0 bs (split-bytes n w)))

pub picked-mu4 : (w : ℕ) → picked 4 (TBSM mu4_rows) w ≡ mu4 (sigma 4 w)
unfolding mu4 mu4_rows
picked-mu4 w = picked-TBSM mu4_rows (refl, (refl, (refl, (refl, tt)))) w

pub picked-mu8 : (w : ℕ) → picked 8 (TBSM mu8_rows) w ≡ mu8 (sigma 8 w)
unfolding mu8 mu8_rows
picked-mu8 w = picked-TBSM mu8_rows (refl, (refl, (refl, (refl, (refl, (refl, (refl, (refl, tt)))))))) w
