use Rattle.std.proofs.Common.{◌≡◌, ◌*◌, length, take}
use Rattle.fox_key_mixing.specs.KeyBytes.{word_bytes}
use Rattle.fox_key_mixing.proofs.key.Key.load.Given as goal

abbrev pub invariant-loop-i : goal.invariant-loop-i
invariant-loop-i g l = (length l.w-items ≡ l.i-end) × (word_bytes 8 (take l.i l.w-items) ≡ take (l.i * 8) l.s)
