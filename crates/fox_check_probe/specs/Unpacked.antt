-- What the numbers of an exported call on part of a block's rounds stand for.
-- Assumes nothing.
use Rattle.std.specs.Prelude.{ℕ, ◌/◌, ◌%◌, ◌^◌, Bool, not, eqb}
use Rattle.fox_refusals.specs.Handed.{answer}
use Rattle.fox_card_block.specs.Part.{PartAnswer}

-- any number but 0 asks to seal
unfoldable pub asks_to_seal : ℕ → Bool
asks_to_seal sealing = not (eqb sealing 0)

-- the number that is returned, with an output of n bytes: the refusal number times 2 to the 32, and the register's value
unfoldable pub unpacked : ℕ → ℕ → PartAnswer
unpacked x n = record { answer = answer (x / 2 ^ 32) n; reg = x % 2 ^ 32 }
