-- The block in use, stored instead of worked out again: in which words it stands, and when it is true to the position.
-- Assumes nothing.
use Rattle.std.specs.Prelude.{◌≡◌, ℕ, ◌/◌, ◌<◌, List, ◌++◌, take}
use Rattle.fox_layers.specs.Words.{split}
use Rattle.fox_refusals.specs.Refusals.{block_size, Keyed}
use Rattle.fox_block.specs.Block.{seal_with}
use Rattle.fox_run.specs.Counter.{counter_block}
use Rattle.fox_session.specs.declared.Pair.{Pair}
use Rattle.fox_session.specs.Machine.{Machine}

-- the 16 bytes of two words
unfoldable pub bytes_in : Pair → List ℕ
bytes_in w = split 8 w.left ++ split 8 w.right

-- the block of the cipher's size that two words hold
unfoldable pub held_block : ℕ → Pair → List ℕ
held_block cipher w = take (block_size cipher) (bytes_in w)

-- two words hold the sealed counter block that a position is in. At the run's end there is none
abbrev pub BlockAt : ℕ → List ℕ → List ℕ → ℕ → Pair → Type 0
BlockAt cipher rks counter position w =
    position < 1073741824 → held_block cipher w ≡ seal_with cipher rks (counter_block counter (position / block_size cipher))

-- the same of the machine's position, unless its key is refused
abbrev pub TrueTo : Machine → Pair → Type 0
TrueTo m w = Keyed m.cipher m.rounds m.key_len → BlockAt m.cipher m.rks m.counter m.position w
