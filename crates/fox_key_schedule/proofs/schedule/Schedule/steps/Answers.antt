-- `schedule::Schedule::steps` meets its contract: it is each schedule's number of groups.
-- Assumes nothing.
use mathlib.Core.Path.{sym, ap}
use Rattle.fox_key_schedule.specs.Step.{steps}
use Rattle.fox_key_schedule.proofs.schedule.Schedule.steps.Goals as goal

pub returns-in-Ks64 : goal.returns-in-Ks64
unfolding steps
returns-in-Ks64 c = sym (ap steps c.in-Ks64.is)

pub returns-in-Ks64h : goal.returns-in-Ks64h
unfolding steps
returns-in-Ks64h c = sym (ap steps c.in-Ks64h.is)

pub returns-in-Ks128 : goal.returns-in-Ks128
unfolding steps
returns-in-Ks128 c = sym (ap steps c.in-Ks128.is)
