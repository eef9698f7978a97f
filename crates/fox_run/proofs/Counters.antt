-- Counting starts at the counter block that is given, and each counter block, as one number, is the one before plus one, modulo 2 to its width in bits. No
-- counter block of a run comes twice, also where the numbers begin again at zero.
-- Assumes nothing.
use mathlib.Core.Path.{◌≡◌, refl, sym, ap, ◌∙◌}
use mathlib.Core.Logic.{⊎_elim}
use mathlib.Core.List.{List, [], ◌∷◌}
use Prim.Native.Nat.{ℕ, suc, ◌+◌, ◌*◌, ◌-◌, ◌/◌, ◌%◌, ◌^◌, ◌≤◌, ◌<◌}
use native.Mathlib.Nat.{add-zero, add_assoc, mod-lt, mod-eq_of_lt, mod-add-mod, div-add-mod', div-mul-le_self}
use native.Mathlib.Nat.{mul-le-mul_left, mul-le-mul_right, lt_trans, eq-zero-or-pos}
use native.Mathlib.Omega.{arith}
use lib.Pow.{pow_pos, pow-lt}
use lib.ListN.{length}
use Rattle.fox_layers.specs.Words.{joined, split, Bytes}
use Rattle.fox_layers.proofs.Laws.Words.{length-split, joined-lt, joined-split, split-joined}
use Rattle.fox_refusals.specs.Refusals.{block_size}
use Rattle.fox_block.proofs.Laws.Block.{by-cipher, size_64, size-128}
use Rattle.fox_run.specs.Counter.{counter_block}

-- known values, of 8 and of 16 bytes: what is carried out of each word goes into the one before it, and all ones are followed by zeros
pub counter-values : counter_block (0 ∷ 0 ∷ 0 ∷ 0 ∷ 255 ∷ 255 ∷ 255 ∷ 255 ∷ []) 1
    ∷ counter_block (1 ∷ 2 ∷ 3 ∷ 255 ∷ 255 ∷ 255 ∷ 255 ∷ 254 ∷ []) 3
    ∷ counter_block (255 ∷ 255 ∷ 255 ∷ 255 ∷ 255 ∷ 255 ∷ 255 ∷ 255 ∷ []) 1
    ∷ counter_block (1 ∷ 2 ∷ 3 ∷ 4 ∷ 5 ∷ 6 ∷ 7 ∷ 8 ∷ 9 ∷ 10 ∷ 11 ∷ 12 ∷ 255 ∷ 255 ∷ 255 ∷ 255 ∷ []) 1
    ∷ counter_block (1 ∷ 2 ∷ 3 ∷ 4 ∷ 5 ∷ 6 ∷ 7 ∷ 255 ∷ 255 ∷ 255 ∷ 255 ∷ 255 ∷ 255 ∷ 255 ∷ 255 ∷ 255 ∷ []) 1
    ∷ counter_block (0 ∷ 0 ∷ 0 ∷ 0 ∷ 255 ∷ 255 ∷ 255 ∷ 255 ∷ 255 ∷ 255 ∷ 255 ∷ 255 ∷ 255 ∷ 255 ∷ 255 ∷ 255 ∷ []) 257
    ∷ counter_block (255 ∷ 255 ∷ 255 ∷ 255 ∷ 255 ∷ 255 ∷ 255 ∷ 255 ∷ 255 ∷ 255 ∷ 255 ∷ 255 ∷ 255 ∷ 255 ∷ 255 ∷ 255 ∷ []) 1
    ∷ []
    ≡ (0 ∷ 0 ∷ 0 ∷ 1 ∷ 0 ∷ 0 ∷ 0 ∷ 0 ∷ [])
    ∷ (1 ∷ 2 ∷ 4 ∷ 0 ∷ 0 ∷ 0 ∷ 0 ∷ 1 ∷ [])
    ∷ (0 ∷ 0 ∷ 0 ∷ 0 ∷ 0 ∷ 0 ∷ 0 ∷ 0 ∷ [])
    ∷ (1 ∷ 2 ∷ 3 ∷ 4 ∷ 5 ∷ 6 ∷ 7 ∷ 8 ∷ 9 ∷ 10 ∷ 11 ∷ 13 ∷ 0 ∷ 0 ∷ 0 ∷ 0 ∷ [])
    ∷ (1 ∷ 2 ∷ 3 ∷ 4 ∷ 5 ∷ 6 ∷ 8 ∷ 0 ∷ 0 ∷ 0 ∷ 0 ∷ 0 ∷ 0 ∷ 0 ∷ 0 ∷ 0 ∷ [])
    ∷ (0 ∷ 0 ∷ 0 ∷ 1 ∷ 0 ∷ 0 ∷ 0 ∷ 0 ∷ 0 ∷ 0 ∷ 0 ∷ 0 ∷ 0 ∷ 0 ∷ 1 ∷ 0 ∷ [])
    ∷ (0 ∷ 0 ∷ 0 ∷ 0 ∷ 0 ∷ 0 ∷ 0 ∷ 0 ∷ 0 ∷ 0 ∷ 0 ∷ 0 ∷ 0 ∷ 0 ∷ 0 ∷ 0 ∷ [])
    ∷ []
unfolding counter_block joined split
counter-values = refl

pub length-counter : (counter : List ℕ) (i : ℕ) → length (counter_block counter i) ≡ length counter
unfolding counter_block
length-counter counter i = length-split (length counter) _

-- a counter block as one number
pub counting : (counter : List ℕ) (i : ℕ) → joined (counter_block counter i) ≡ (joined counter + i) % 2 ^ (8 * length counter)
unfolding counter_block
counting counter i = joined-split (length counter) _ (mod-lt _ (pow_pos (8 * length counter)))

-- counting goes on from every counter block as from the first: number i + 1 is number i plus one
pub counting-on : (counter : List ℕ) (i j : ℕ) → counter_block (counter_block counter i) j ≡ counter_block counter (i + j)
unfolding counter_block
counting-on counter i j =
    let n = length counter in
    let m = 2 ^ (8 * n) in
    let numbers : ((joined counter + i) % m + j) % m ≡ (joined counter + (i + j)) % m =
    mod-add-mod (joined counter + i) m j ∙ ap (λ (w : ℕ). w % m) (add_assoc (joined counter) i j) in
    rw (length-counter counter i, counting counter i) (ap (split n) numbers)

-- two numbers less than m apart have different remainders
apart : (m a i j : ℕ) → i < j → j < i + m → (a + i) % m ≡ (a + j) % m → ⊥
apart m a i j low high same =
    let p = (a + i) / m in
    let q = (a + j) / m in
    ⊎_elim (λ z. omega (arith, mul-le-mul_right {m = q} {n = p} m (omega arith), div-add-mod' (a + i) m, div-add-mod' (a + j) m))
    (λ z. omega (arith, mul-le-mul_right {m = suc p} {n = q} m (omega arith), div-add-mod' (a + i) m, div-add-mod' (a + j) m)) (eq-zero-or-pos (q - p))

-- as many counter blocks in a row as there are numbers of the width all differ, from any first counter block
pub counters-apart : (counter : List ℕ) (i j : ℕ) → i < j → j < i + 2 ^ (8 * length counter) → counter_block counter i ≡ counter_block counter j → ⊥
counters-apart counter i j low high e =
    apart (2 ^ (8 * length counter)) (joined counter) i j low high (sym (counting counter i) ∙ ap joined e ∙ counting counter j)

pub size_low : (c : ℕ) → 8 ≤ block_size c
size_low c = by-cipher c (λ e. omega (arith, size_64 c e)) (λ n. omega (arith, size-128 c n))

-- a run has fewer than 2 ^ 30 blocks
pub run-blocks : (c j : ℕ) → j * block_size c < 1073741824 → j < 2 ^ 30
run-blocks c j l = omega (arith, mul-le-mul_left j (size_low c))

-- and fewer than there are numbers of the width
few-blocks : (c j : ℕ) → j * block_size c < 1073741824 → j < 2 ^ (8 * block_size c)
few-blocks c j l = lt_trans (run-blocks c j l) (pow-lt {i = 30} {j = 8 * block_size c} (omega (arith, size_low c)))

-- the counter blocks of a run all differ, for a counter block of the cipher's size
pub counters-differ : (c : ℕ) (counter : List ℕ) (i j : ℕ) → length counter ≡ block_size c → i < j → j * block_size c < 1073741824
    → counter_block counter i ≡ counter_block counter j → ⊥
counters-differ c counter i j size h l e =
    counters-apart counter i j h (rw size (omega (arith, few-blocks c j l))) e

-- two bytes of a run that are not in one block have different counter blocks
pub bytes_apart : (c : ℕ) (counter : List ℕ) (m n : ℕ) → length counter ≡ block_size c → m < 1073741824 → n < 1073741824
    → (m / block_size c ≡ n / block_size c → ⊥) → counter_block counter (m / block_size c) ≡ counter_block counter (n / block_size c) → ⊥
bytes_apart c counter m n size hm hn apart e =
    let B = block_size c in
    ⊎_elim (λ z. counters-differ c counter (n / B) (m / B) size (omega arith) (omega (arith, div-mul-le_self m B)) (sym e))
    (λ p. counters-differ c counter (m / B) (n / B) size (omega arith) (omega (arith, div-mul-le_self n B)) e) (eq-zero-or-pos (n / B - m / B))

-- counter block number 0 is the one that is given
pub counter-first : (counter : List ℕ) → Bytes counter → counter_block counter 0 ≡ counter
unfolding counter_block
counter-first counter bytes =
    ap (split (length counter)) (ap (λ (w : ℕ). w % 2 ^ (8 * length counter)) (add-zero (joined counter)) ∙ mod-eq_of_lt (joined-lt counter bytes))
    ∙ split-joined counter bytes
