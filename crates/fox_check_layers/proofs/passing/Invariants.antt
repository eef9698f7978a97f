-- The loop of `passing`: it counts at most one for each word.
-- Assumes nothing.
use Rattle.std.proofs.Common.{◌≤◌}
use Rattle.fox_check_layers.proofs.passing.Given as goal

abbrev pub invariant-loop : goal.invariant-loop
invariant-loop g l = l.count ≤ l.counter
