use Rattle.std.proofs.Common.{◌≡◌, ◌++◌, length, take, drop}
use Rattle.fox_layers.specs.Words.{xor_each}
use Rattle.fox_key_mixing.proofs.key.Key.dkey.Given as goal

abbrev pub invariant-loop-i : goal.invariant-loop-i
invariant-loop-i g l =
    (length l.w-items ≡ l.i-end) × (take l.i l.w-items ++ xor_each (drop l.i l.w-items) (drop l.i l.row) ≡ xor_each l.fn.self.words l.row)
