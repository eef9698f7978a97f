-- `rounds::rounds_on` meets its contract: whenever the loop's test is reached, i - from rounds are done.
-- Assumes nothing.
use Rattle.std.proofs.Common.{rules, arith, ◌≡◌, ℕ, ◌-◌, ap, ◌∙◌}
use Rattle.fox_key_schedule.specs.Step.{round_key_at, steps}
use Rattle.fox_card_block.specs.Hold.{round_on, rounds_on}
use Rattle.fox_card_block.proofs.Laws.Hold.{rounds_on-next}
use Rattle.fox_card_block.proofs.rounds.rounds_on.Goals as goal

pub loop-i-init : goal.loop-i-init
unfolding rounds_on
loop-i-init c =
    let a = c.args in
    let none : 0 ≡ a.from - a.from = omega arith in
    (search rules, search rules, ap (λ (n : ℕ). rounds_on a.sealing (round_key_at a.s) (steps a.s) a.from n a.h) none)

pub loop-i-preserved : goal.loop-i-preserved
loop-i-preserved c =
    let a = c.args in
    let l = c.loop-i in
    let key = round_key_at a.s in (
      search rules,
      search rules,
      c.round_on-now.ensures
          ∙ ap (round_on a.sealing key (steps a.s) l.i) l.invariant.2
          ∙ rounds_on-next a.sealing key (steps a.s) a.from l.i a.h l.invariant.0,
    )

pub returns : goal.returns
returns c =
    let a = c.args in
    let l = c.loop-i in
    let all : l.i - a.from ≡ a.until - a.from = search rules in
    l.invariant.2 ∙ ap (λ (n : ℕ). rounds_on a.sealing (round_key_at a.s) (steps a.s) a.from n a.h) all
