-- The diversification (001 §2.3.8): the mixed key XORed with successive register values.
-- Assumes nothing.
use Rattle.std.specs.Prelude.{ℕ, zero, suc, ◌+◌, ◌/◌, List, [], ◌++◌, length}
use Rattle.fox_layers.specs.Words.{split, xor_each}
use Rattle.fox_key_register.specs.Register.{clocked}

-- the bytes of n successive register values, three each, the first of them reg
unfoldable pub stream : ℕ → ℕ → List ℕ
stream zero reg = []
stream (suc n) reg = split 3 reg ++ stream n (clocked reg)

-- the number of groups of three bytes in ek bytes; the last group may be shorter
unfoldable pub groups : ℕ → ℕ
groups ek = (ek + 2) / 3

-- §2.3.8, D: each group of the mixed key XORed with its register value. The XOR ends with the key, so that a shorter last group takes the value's top bytes
unfoldable pub dkey : List ℕ → ℕ → List ℕ
dkey mkey reg = xor_each mkey (stream (groups (length mkey)) reg)
