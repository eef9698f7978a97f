-- `four::seal_four` meets its contract: whenever the loop's test is reached, the rounds that are left turn each of the four states into what all rounds turn its
-- block into. After the loop one round is left.
-- Assumes nothing.
use Rattle.std.specs.Prelude.{◌≤◌, true}
use Rattle.fox_rounds.proofs.Laws.Skeleton.{TurnLeft}
use Rattle.fox_server_rounds_four.specs.Each.{Each}
use Rattle.fox_server_rounds_four.proofs.four.seal_four.Given as goal

abbrev pub invariant-loop-i : goal.invariant-loop-i
invariant-loop-i g l =
    (l.i ≤ l.last)
    × Each (λ a b. TurnLeft true (g.B.Tabled.key_in l.engine.keys.now) l.engine.rounds (g.B.Block.state (g.B.Beside.narrow a)) l.i
    (g.B.Block.state (g.B.Beside.narrow b))) l.fn.x l.y
