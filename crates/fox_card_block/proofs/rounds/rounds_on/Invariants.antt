use Rattle.std.proofs.Common.{◌≡◌, ◌≤◌, ◌-◌}
use Rattle.fox_key_schedule.specs.Step.{round_key_at, steps}
use Rattle.fox_card_block.specs.Hold.{rounds_on}
use Rattle.fox_card_block.proofs.rounds.rounds_on.Given as goal

-- whenever the loop's test is reached, i - from rounds are done
abbrev pub invariant-loop-i : goal.invariant-loop-i
invariant-loop-i l =
    (l.from ≤ l.i) × (l.i - l.from ≤ l.until - l.from) × (l.now ≡ rounds_on l.sealing (round_key_at l.s) (steps l.s) l.from (l.i - l.from) l.fn.h)
