-- The CMAC mode (SP 800-38B), on lists of bytes, over blocks of B bytes and any block function E. Blocks are counted from 0.
-- Assumes nothing.
use Rattle.std.specs.Prelude.{ℕ, ◌-◌, ◌*◌, ◌/◌, ◌^◌, Bool, true, false, cond, List, [], ◌∷◌, ◌++◌, eqb, ltb, length, take, drop, replicate}
use Rattle.fox_layers.specs.Words.{◌⊕◌, joined, split, xor_each}
use Rattle.fox_layers.specs.Lists.{numbered}

-- §5.3: R, which doubling XORs in where the top bit leaves: 1B for blocks of 8 bytes, 87 for blocks of 16 (and, here, of any other size)
unfoldable pub reduction : ℕ → ℕ
reduction B = cond (eqb B 8) 0x1B 0x87

-- §6.1, steps 2 and 3: a block doubled, as one big-endian number. Where that number reaches 2 ^ (8 * B) the top bit leaves: `split B` takes the lowest B
-- bytes, and R is XORed in
unfoldable pub doubled : ℕ → List ℕ → List ℕ
doubled B block =
    let w = 2 * joined block in
    split B (w ⊕ cond (ltb w (2 ^ (8 * B))) 0 (reduction B))

-- §6.1: the subkeys, from the sealed zero block: K1 for a whole last block, and K2 for any other
unfoldable pub subkey_of : ℕ → List ℕ → Bool → List ℕ
subkey_of B sealed true = doubled B sealed
subkey_of B sealed false = doubled B (doubled B sealed)

-- §6.2, steps 2 and 3: how many blocks stand before the last: (n - 1) / B for a message of n bytes; none for the empty message, since 0 - 1 is 0 here
unfoldable pub blocks_before : ℕ → List ℕ → ℕ
blocks_before B message = (length message - 1) / B

-- §6.2, step 3: block number i of the message; the last one may be shorter than B bytes, or empty
unfoldable pub block_at : ℕ → List ℕ → ℕ → List ℕ
block_at B message i = take B (drop (i * B) message)

abbrev pub last_at : ℕ → List ℕ → List ℕ
last_at B message = block_at B message (blocks_before B message)

-- §6.2, step 4: whether the last block is a complete one
unfoldable pub whole : ℕ → List ℕ → Bool
whole B message = eqb (length (last_at B message)) B

-- §6.2, step 4: a block filled up with a 1 bit and zeros
unfoldable pub filled : ℕ → List ℕ → List ℕ
filled B part = part ++ (0x80 ∷ replicate (B - 1 - length part) 0)

-- the blocks of a message, the last one filled up where it is not complete
unfoldable pub blocks : ℕ → List ℕ → List (List ℕ)
blocks B message =
    numbered (block_at B message) (blocks_before B message) 0 ++ (cond (whole B message) (last_at B message) (filled B (last_at B message)) ∷ [])

-- blocks one after the other
unfoldable pub flat : List (List ℕ) → List ℕ
flat [] = []
flat (m ∷ ms) = m ++ flat ms

-- a message with its padding
unfoldable pub padded : ℕ → List ℕ → List ℕ
padded B message = cond (whole B message) message (message ++ (0x80 ∷ replicate (B - 1 - length (last_at B message)) 0))

-- §6.2, step 4: the blocks with the subkey XORed into the last
unfoldable pub keyed_last : List ℕ → List (List ℕ) → List (List ℕ)
keyed_last k [] = []
keyed_last k (m ∷ []) = xor_each k m ∷ []
keyed_last k (m ∷ n ∷ ms) = m ∷ keyed_last k (n ∷ ms)

-- §6.2, step 6: blocks chained, from the block c on
unfoldable pub chained : (List ℕ → List ℕ) → List ℕ → List (List ℕ) → List ℕ
chained E c [] = c
chained E c (m ∷ ms) = chained E (E (xor_each c m)) ms

-- §6.2, steps 5 to 7: the tag, all B bytes of it
unfoldable pub cmac : ℕ → (List ℕ → List ℕ) → List ℕ → List ℕ
cmac B E message = chained E (replicate B 0) (keyed_last (subkey_of B (E (replicate B 0)) (whole B message)) (blocks B message))

-- the last block with its subkey, from the sealed zero block and what the last block has of the message. Code is held to it; the law `chained_to-tag` says that
-- it is the last block of `cmac`
unfoldable pub keyed_block : ℕ → List ℕ → List ℕ → List ℕ
keyed_block B sealed part =
    let t = eqb (length part) B in
    xor_each (subkey_of B sealed t) (cond t part (filled B part))
