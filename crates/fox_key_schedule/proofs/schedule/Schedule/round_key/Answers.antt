-- `schedule::Schedule::round_key` meets its contract: beside the key the register is one step block on, and one back.
-- Assumes nothing.
use mathlib.Core.Path.{ap, ◌∙◌}
use mathlib.Core.Bool.{true, false}
use Prim.Native.Nat.{ℕ}
use native.Mathlib.Nat.{one-mul}
use Rattle.fox_key_register.specs.Register.{stepped}
use Rattle.fox_key_schedule.specs.Step.{steps}
use Rattle.fox_key_schedule.proofs.schedule.Schedule.round_key.Goals as goal

pub returns : goal.returns
returns c =
    let a = c.args in
    let one = one-mul (steps a.self) in
    record {
      key = c.key_at-key.ensures;
      next = c.moved-next.ensures ∙ ap (λ (n : ℕ). stepped true n a.reg) one;
      before = c.moved-before.ensures ∙ ap (λ (n : ℕ). stepped false n a.reg) one;
    }
