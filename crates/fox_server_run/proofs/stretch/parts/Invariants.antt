-- `stretch::parts` meets its contract: whenever the loop's test is reached, the output is XORed up to `at`, and the rest of it is as it was. Each part does
-- at least one byte of what is left.
-- Assumes nothing.
use mathlib.Core.Path.{◌≡◌}
use Prim.Native.Nat.{◌-◌, ◌≤◌}
use lib.ListN.{length}
use Rattle.fox_server_rounds.specs.Keys.{keys_by}
use Rattle.fox_run.specs.States.{stream}
use Rattle.fox_run.specs.Parts.{XoredTo}
use Rattle.fox_server_run.proofs.stretch.parts.Given as goal

abbrev pub invariant-loop-at : goal.invariant-loop-at
invariant-loop-at g l =
    (l.at ≤ length l.input) × (length l.out ≡ length l.input)
    × XoredTo (stream (keys_by g.B.Tabled.key_in l.engine.keys.now l.engine.rounds) (g.B.Block.state l.x)) l.n l.input l.initial.out l.at l.out

abbrev pub decreases-loop-at : goal.decreases-loop-at
decreases-loop-at g l = length l.input - l.at
