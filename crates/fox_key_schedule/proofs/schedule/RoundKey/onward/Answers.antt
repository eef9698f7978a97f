-- `schedule::RoundKey::onward` meets its contract: it is `next` in sealing and `before` in opening.
-- Assumes nothing.
use Rattle.fox_key_schedule.specs.Step.{onward}
use Rattle.fox_key_schedule.proofs.schedule.RoundKey.onward.Goals as goal

pub returns-then-sealing : goal.returns-then-sealing
unfolding onward
returns-then-sealing c = rw c.if-sealing.true

pub returns-else-sealing : goal.returns-else-sealing
unfolding onward
returns-else-sealing c = rw c.if-sealing.false
