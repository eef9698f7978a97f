-- `rounds::turned` meets its contract: all rounds of a block in hand, from the register's value for the first, are the block sealed or opened.
-- Assumes nothing.
use Rattle.std.proofs.Common.{rules, ap, ◌∙◌}
use Rattle.fox_key_schedule.specs.Step.{round_key_at, steps, round_key_of}
use Rattle.fox_card_block.specs.declared.rounds.Hold.{Hold}
use Rattle.fox_card_block.proofs.Laws.Hold.{turned_on}
use Rattle.fox_card_block.proofs.rounds.turned.Goals as goal

pub returns : goal.returns
unfolding round_key_of
returns c =
    let a = c.args in
    ap (λ (h : Hold). h.state) c.rounds_on-done.ensures
    ∙ turned_on a.sealing (round_key_at a.s) (steps a.s) a.rounds a.x (search rules) (search rules) c.first-reg.ensures
