-- The tables of 001 §4.2.2: the S-box, the shifted S-box (TBS) and the joined S-box/diffusion tables (TBSM); and what a lookup gives in any tables passed by
-- reference.
-- Assumes nothing.
use Rattle.std.specs.Prelude.{ℕ, ◌+◌, ◌*◌, ◌-◌, ◌/◌, ◌%◌, ◌^◌, List, map, length, get_or}
use Rattle.fox_layers.specs.Lists.{numbered}
use Rattle.fox_layers.specs.Words.{joined, split, xor_over}
use Rattle.fox_layers.specs.Field.{product}
use Rattle.fox_layers.specs.Substitution.{sbox}

-- a function on bytes as a table of 256 entries
unfoldable pub table : (ℕ → ℕ) → List ℕ
unfolding numbered
table f = numbered f 256 0

-- Fig. 7, the S-box as a table, computed by §3.1
unfoldable pub sbox_table : List ℕ
sbox_table = table sbox

-- n tables of 256 entries, one after the other: entry 256·j + x is f j x
unfoldable pub tables : (ℕ → ℕ → ℕ) → ℕ → List ℕ
tables f n = numbered (λ (i : ℕ). f (i / 256) (i % 256)) (n * 256) 0

-- §4.2.2: the n TBS tables: table j is the S-box shifted to byte j of a word of n bytes
unfoldable pub TBS : ℕ → List ℕ
TBS n = tables (λ (j x : ℕ). sbox x * 2 ^ (8 * (n - 1 - j))) n

-- column number j of a matrix given by its rows
unfoldable pub column : ℕ → List (List ℕ) → List ℕ
column j rows = map (λ (row : List ℕ). get_or row j 0) rows

-- a column times one byte, joined to one word
unfoldable pub scaled : List ℕ → ℕ → ℕ
scaled ms x = joined (map (λ (m : ℕ). product m x) ms)

-- §4.2.2: the entry of TBSM table j of a matrix at a byte: column j times the S-box's value
unfoldable pub tbsm_entry : List (List ℕ) → ℕ → ℕ → ℕ
tbsm_entry rows j x = scaled (column j rows) (sbox x)

-- §4.2.2: the TBSM tables of a square matrix, one for each column
unfoldable pub TBSM : List (List ℕ) → List ℕ
TBSM rows = tables (tbsm_entry rows) (length rows)

-- a lookup of a word of n bytes in n tables that follow one another: the XOR of one entry for each byte, byte j's from table j
unfoldable pub picked : ℕ → List ℕ → ℕ → ℕ
picked n t w = xor_over (λ (j x : ℕ). get_or t (j * 256 + x) 0) (numbered (λ (j : ℕ). j) n 0) (split n w)
