-- `mixing::mixed_bytes`: whenever the loop's test is reached, the first i bytes, followed by the padded key from i on mixed after the bytes x and y, are the mixed
-- key.
-- Assumes nothing.
use Rattle.std.proofs.Common.{◌≡◌, ◌++◌, ◌≤◌, length, take, drop}
use Rattle.fox_key_mixing.specs.Padding.{padded, mixed}
use Rattle.fox_key_mixing.proofs.mixing.mixed_bytes.Given as goal

abbrev pub invariant-loop-i : goal.invariant-loop-i
invariant-loop-i l =
    (l.i ≤ l.ek) × (length l.out ≡ 32)
    × (take l.i l.out ++ mixed l.x l.y (drop l.i (padded l.ek l.key)) ≡ mixed 0x6A 0x76 (padded l.ek l.key))
