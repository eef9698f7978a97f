-- `counted` of `Fox64` meets its contract: each word is a wrapping sum, and the upper one takes what is carried out of the lower.
-- Assumes nothing.
use Rattle.std.proofs.Common.{◌+◌, ◌%◌, ◌^◌}
use Rattle.fox_run.specs.States.{counted64}
use Rattle.fox_engine_counter.proofs.states.Fox64Counter.counted.Goals as goal

pub returns : goal.returns
unfolding counted64
returns c =
    let x = c.args.self in
    λ j. record { l = (x.l + c.carry-a.ensures j) % 2 ^ 32; r = (x.r + c.args.i) % 2 ^ 32 }
