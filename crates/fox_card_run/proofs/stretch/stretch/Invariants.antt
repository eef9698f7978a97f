-- `stretch::stretch`: whenever the loop's test is reached, the output is XORed up to `at`, and the rest of it is as it was.
-- Assumes nothing.
use Rattle.std.proofs.Common.{◌≡◌, ◌-◌, ◌≤◌, length}
use Rattle.fox_key_schedule.specs.Step.{round_keys_of}
use Rattle.fox_run.specs.States.{stream}
use Rattle.fox_run.specs.Parts.{XoredTo}
use Rattle.fox_card_run.proofs.stretch.stretch.Given as goal

abbrev pub invariant-loop-at : goal.invariant-loop-at
invariant-loop-at l =
    (l.at ≤ length l.input) × (length l.out ≡ length l.input) × XoredTo (stream (round_keys_of l.s l.rounds) l.x) l.n l.input l.initial.out l.at l.out

abbrev pub decreases-loop-at : goal.decreases-loop-at
decreases-loop-at l = length l.input - l.at
