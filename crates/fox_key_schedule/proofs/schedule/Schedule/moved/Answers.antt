-- `schedule::Schedule::moved` meets its contract: it takes the steps of so many step blocks.
-- Assumes nothing.
use mathlib.Core.Path.{ap, ◌∙◌}
use Prim.Native.Nat.{ℕ, ◌*◌}
use native.Mathlib.Omega.{arith}
use Rattle.fox_key_register.specs.Register.{stepped}
use Rattle.fox_key_schedule.proofs.Laws.RegisterAt.{few-steps}
use Rattle.fox_key_schedule.proofs.schedule.Schedule.moved.Goals as goal

pub overflow_mul-blocks : goal.overflow_mul-blocks
overflow_mul-blocks c = record { fits = few-steps _ _ (omega arith) c.steps.ensures }

pub returns : goal.returns
returns c =
    let a = c.args in
    c.stepped.ensures ∙ ap (λ (n : ℕ). stepped a.on (a.blocks * n) a.reg) c.steps.ensures
