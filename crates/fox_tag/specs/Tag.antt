-- The tag of a message: CMAC over FOX64 with blocks of 8 bytes and over FOX128 with blocks of 16.
-- Assumes nothing.
use Rattle.std.specs.Prelude.{ℕ, List, replicate}
use Rattle.fox_layers.specs.Lists.{numbered}
use Rattle.fox_refusals.specs.Refusals.{block_size}
use Rattle.fox_key_schedule.specs.Schedule.{round_keys}
use Rattle.fox_block.specs.Block.{seal_with}
use Rattle.fox_tag.specs.Cmac.{block_at, chained, cmac}

-- with a list of round keys
unfoldable pub tag_with : ℕ → List ℕ → List ℕ → List ℕ
tag_with cipher rks message = cmac (block_size cipher) (seal_with cipher rks) message

-- the chain over the message's first n blocks, which code computes before it looks at the last
abbrev pub chain_of : ℕ → List ℕ → List ℕ → ℕ → List ℕ
chain_of cipher rks message n =
    chained (seal_with cipher rks) (replicate (block_size cipher) 0) (numbered (block_at (block_size cipher) message) n 0)

-- with the round keys of a key
abbrev pub tag : ℕ → ℕ → List ℕ → List ℕ → List ℕ
tag cipher rounds key message = tag_with cipher (round_keys cipher rounds key) message
