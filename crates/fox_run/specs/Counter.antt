-- The counter blocks of a run (SP 800-38A §6.5 and B.1): how a run counts, and the first counter block of a run that has a number (B.2).
-- Assumes nothing.
use Rattle.std.specs.Prelude.{ℕ, ◌+◌, ◌*◌, ◌%◌, ◌^◌, List, length}
use Rattle.fox_layers.specs.Words.{joined, split}
use Rattle.fox_refusals.specs.Refusals.{block_size}

-- counter block number i, counted from 0: the first counter block, as one big-endian number, plus i, modulo 2 to its width in bits
unfoldable pub counter_block : List ℕ → ℕ → List ℕ
counter_block counter i = split (length counter) ((joined counter + i) % 2 ^ (8 * length counter))

-- the first counter block of the run with a number, below 2 to the 32: the number in the four bytes before the last four, and zeros in all others
unfoldable pub first_counter : ℕ → ℕ → List ℕ
first_counter cipher number = split (block_size cipher) (number * 2 ^ 32)
