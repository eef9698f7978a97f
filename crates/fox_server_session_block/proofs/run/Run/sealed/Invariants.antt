-- `Run::sealed` meets its contract: whenever the loop's test is reached, the rounds that are left turn the state into what all rounds turn the block into.
-- Assumes nothing.
use Rattle.std.specs.Prelude.{true}
use Rattle.fox_rounds.proofs.Laws.Skeleton.{TurnLeft}
use Rattle.fox_server_session_block.specs.Keys.{held_key}
use Rattle.fox_server_session_block.proofs.run.Run.sealed.Given as goal

abbrev pub invariant-loop-i : goal.invariant-loop-i
invariant-loop-i l = TurnLeft true (held_key l.self.cipher l.self.keys.now) l.self.rounds l.fn.x l.i l.y
