-- `last::xor_into`: whenever the loop goes on, the first i bytes of the XOR are in the block, and the rest of it is as it was.
-- Assumes nothing.
use Rattle.std.proofs.Common.{◌≡◌, ◌++◌, ◌≤◌, length, take, drop}
use Rattle.fox_layers.specs.Words.{xor_each}
use Rattle.fox_engine_subkeys.proofs.last.xor_into.Given as goal

abbrev pub invariant-loop-i : goal.invariant-loop-i
invariant-loop-i l =
    (length l.part ≤ length l.initial.block)
    × (length l.block ≡ length l.initial.block)
    × (l.block ≡ take l.i (xor_each l.initial.block l.part) ++ drop l.i l.initial.block)
