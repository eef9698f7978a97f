use Rattle.std.proofs.Common.{◌≡◌, ◌≢◌, ◌≤◌}
use mathlib.Core.Bool.{true}
use Rattle.fox_layers.specs.Lists.{numbered}
use Rattle.fox_key_schedule.specs.Step.{steps, round_key_of, RegisterAt}
use Rattle.fox_server_key.specs.Prepared.{in_halves, filled}
use Rattle.fox_server_key.proofs.prepared.fill.Given as goal

-- whenever the loop's test is reached, the words have the round keys so far, the rest are 0, and the register has the value for the next round key
abbrev pub invariant-loop-i : goal.invariant-loop-i
invariant-loop-i g l =
    (l.i ≤ l.rounds)
    × RegisterAt (steps l.s) true l.rounds l.i l.reg
    × (g.row.W ≡ 1 → l.keys ≡ filled (numbered (round_key_of l.s l.rounds) l.i 0))
    × (g.row.W ≢ 1 → l.keys ≡ filled (in_halves (numbered (round_key_of l.s l.rounds) l.i 0)))
