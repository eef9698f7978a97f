-- The round keys that an array of 64-bit words holds.
-- Assumes nothing.
use Rattle.std.specs.Prelude.{ℕ, ◌+◌, ◌*◌, ◌^◌, List, get_or}
use Rattle.fox_layers.specs.Lists.{numbered}

-- round key number i, counted from 0: one word for FOX64, two for FOX128, the left first
unfoldable pub round_key_in64 : List ℕ → ℕ → ℕ
round_key_in64 ws i = get_or ws i 0

unfoldable pub round_key_in128 : List ℕ → ℕ → ℕ
round_key_in128 ws i = get_or ws (2 * i) 0 * 2 ^ 64 + get_or ws (2 * i + 1) 0

-- the first n of them
abbrev pub round_keys_in64 : List ℕ → ℕ → List ℕ
round_keys_in64 ws n = numbered (round_key_in64 ws) n 0

abbrev pub round_keys_in128 : List ℕ → ℕ → List ℕ
round_keys_in128 ws n = numbered (round_key_in128 ws) n 0
