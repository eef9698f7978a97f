-- `schedule::Schedule::of` meets its contract: cipher and key length choose the schedule as Fig. 8 does, and the length is compared with that schedule's ek.
-- Assumes nothing.
use Rattle.std.proofs.Common.{refl}
use Rattle.fox_key_schedule.specs.Step.{Scheduled}
use Rattle.fox_key_schedule.proofs.schedule.Schedule.of.Goals as goal

pub returns-then-cipher-ne64 : goal.returns-then-cipher-ne64
unfolding Scheduled
returns-then-cipher-ne64 c = (c.if-cipher-ne64.true, c.mkey.ensures, refl)

pub returns-then-key-le-EK : goal.returns-then-key-le-EK
unfolding Scheduled
returns-then-key-le-EK c = (c.if-cipher-ne64.false, c.if-key-le-EK.true, c.mkey-then-key-le-EK.ensures, refl)

pub returns-else-key-le-EK : goal.returns-else-key-le-EK
unfolding Scheduled
returns-else-key-le-EK c = (c.if-cipher-ne64.false, c.if-key-le-EK.false, c.mkey-else-key-le-EK.ensures, refl)
