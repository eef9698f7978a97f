-- `engine::Engine::seal` meets its contract: whenever the loop's test is reached, the rounds that are left turn the state into what all rounds turn the block
-- into. After the loop one round is left.
-- Assumes nothing.
use Rattle.std.specs.Prelude.{◌≤◌, true}
use Rattle.fox_rounds.proofs.Laws.Skeleton.{TurnLeft}
use Rattle.fox_server_rounds.proofs.engine.Engine.seal.Given as goal

abbrev pub invariant-loop-i : goal.invariant-loop-i
invariant-loop-i g l =
    (l.i ≤ l.last) × TurnLeft true (g.B.Tabled.key_in l.self.keys.now) l.self.rounds (g.B.Block.state l.fn.x) l.i (g.B.Block.state l.y)
