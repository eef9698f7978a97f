-- `schedule::Schedule::first` meets its contract: it is the seed, or the seed moved on to the last round key.
-- Assumes nothing.
use Rattle.std.proofs.Common.{◌<◌, ◌^◌, Bool, sym, subst}
use Rattle.fox_key_register.proofs.Laws.Register.{seed-lt, stepped-lt}
use Rattle.fox_key_schedule.specs.Step.{steps, RegisterAt}
use Rattle.fox_key_schedule.proofs.Laws.RegisterAt.{register_at-first, register_at-last}
use Rattle.fox_key_schedule.proofs.schedule.Schedule.first.Goals as goal

pub returns-then-sealing : goal.returns-then-sealing
returns-then-sealing c =
    let a = c.args in
    let start = c.seed-start in
    let small : start.result < 2 ^ 24 = rw start.ensures (seed-lt a.rounds c.ranges.rounds.fits) in
    subst (λ (d : Bool). RegisterAt (steps a.self) d a.rounds 0 start.result) (sym c.if-sealing.true)
    (register_at-first (steps a.self) a.rounds start.ensures small)

pub returns-else-sealing : goal.returns-else-sealing
returns-else-sealing c =
    let a = c.args in
    let start = c.seed-start in
    let small : start.result < 2 ^ 24 = rw start.ensures (seed-lt a.rounds c.ranges.rounds.fits) in
    let last : c.moved.result < 2 ^ 24 = rw c.moved.ensures (stepped-lt _ _ start.result small) in
    subst (λ (d : Bool). RegisterAt (steps a.self) d a.rounds 0 c.moved.result) (sym c.if-sealing.false)
    (register_at-last (steps a.self) a.rounds c.requires start.ensures c.moved.ensures last)
