-- `engine::Engine::turn` meets its contract: whenever the loop's test is reached, the rounds that are left turn the state into what all rounds turn the block
-- into. After the loop one round is left.
-- Assumes nothing.
use Rattle.std.specs.Prelude.{◌≤◌}
use Rattle.fox_rounds.proofs.Laws.Skeleton.{TurnLeft}
use Rattle.fox_server_rounds.proofs.engine.Engine.turn.Given as goal

abbrev pub invariant-loop-n : goal.invariant-loop-n
invariant-loop-n g l =
    (l.n ≤ l.last) × TurnLeft l.sealing (g.B.Tabled.key_in l.self.keys.now) l.self.rounds (g.B.Block.state l.fn.x) l.n (g.B.Block.state l.y)
