-- Round key number i of those that 510 words hold, counted from 0, by the cipher.
-- Assumes nothing.
use Rattle.std.specs.Prelude.{ℕ, List, cond, eqb}
use Rattle.fox_rounds.specs.RoundKeys.{round_key_in64, round_key_in128}

unfoldable pub held_key : ℕ → List ℕ → ℕ → ℕ
held_key cipher words i = cond (eqb cipher 64) (round_key_in64 words i) (round_key_in128 words i)
