-- The round keys that an array of words holds, for a cipher whose round key number i is read from the words by `key_in`.
-- Assumes nothing.
use Rattle.std.specs.Prelude.{List, ℕ}
use Rattle.fox_layers.specs.Lists.{numbered}

-- the first n of them
abbrev pub keys_by : (List ℕ → ℕ → ℕ) → List ℕ → ℕ → List ℕ
keys_by key_in ws n = numbered (key_in ws) n 0
