-- `counted` of `Fox128` meets its contract: each word is a wrapping sum, and each but the last takes what is carried out of the next.
-- Assumes nothing.
use Rattle.std.proofs.Common.{◌+◌, ◌%◌, ◌^◌, ◌∙◌, ap₂, arith}
use lib.Bits.{bit_and}
use Rattle.fox_run.specs.States.{carry, counted128}
use Rattle.fox_run.proofs.Laws.Counting.{carry-le, carry-passed}
use Rattle.fox_engine_counter.proofs.states.Fox128Counter.counted.Goals as goal

pub returns : goal.returns
unfolding counted128
returns r =
    let x = r.args.self in
    let fits = r.well_formed.0.1.1.1 in
    let one = carry-le x.rr r.args.i fits.1.1.0.1 (omega arith) in
    let a = r.carry-a.ensures in
    let b = ap₂ bit_and a r.passed_on.ensures ∙ carry-passed x.rl _ fits.1.0.1 one in
    let c = ap₂ bit_and b r.passed_on-2.ensures ∙ carry-passed x.lr _ fits.0.1 (carry-le x.rl _ fits.1.0.1 (omega (arith, one))) in
    λ j.
    record { ll = (x.ll + c j) % 2 ^ 32; lr = (x.lr + b j) % 2 ^ 32; rl = (x.rl + a j) % 2 ^ 32; rr = (x.rr + r.args.i) % 2 ^ 32 }
