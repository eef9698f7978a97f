-- `block::turn` meets its contract: past the refusals rounds and lengths are as the step for the cipher needs them, and the round keys are those that the
-- prepared key holds.
-- Assumes nothing.
use mathlib.Core.Path.{refl, sym, ap, ◌∙◌}
use native.Mathlib.Omega.{arith}
use Rattle.fox_rounds.specs.Skeleton.{turned}
use Rattle.fox_rounds.specs.RoundKeys.{round_keys_in64, round_keys_in128}
use Rattle.fox_rounds.specs.declared.state.State.{State}
use Rattle.fox_refusals.specs.Refusals.{block_size}
use Rattle.fox_refusals.proofs.Laws.Refusals.{blocked}
use Rattle.fox_refusals.proofs.Laws.Reply.{served_answer}
use Rattle.fox_block.specs.Block.{bytes}
use Rattle.fox_block.proofs.Laws.Block.{size-128, state-64, state-128}
use Rattle.fox_server_block.proofs.Laws.Ready.{ready}
use Rattle.fox_server_key.proofs.Laws.RoundKeys.{turned-in-64, turned-in-128}
use Rattle.fox_server_block.proofs.block.turn.Goals as goal

pub turn_of-requires : goal.turn_of-requires
turn_of-requires c = ready _ _ (blocked _ _ _ _ _ _ (sym c.in_ok-for_block.ensures)) (ap block_size c.if-p-eq64.true)

pub turn_of-requires-else-p-eq64 : goal.turn_of-requires-else-p-eq64
unfolding block_size
turn_of-requires-else-p-eq64 c = ready _ _ (blocked _ _ _ _ _ _ (sym c.in_ok-for_block.ensures)) (size-128 _ c.if-p-eq64.false)

pub returns-then-p-eq64 : goal.returns-then-p-eq64
returns-then-p-eq64 c =
    let a = c.args in
    served_answer (sym c.in_ok-for_block.ensures) c.turn_of.auto.out
    (c.turn_of.ensures ∙ ap (λ (x : State). bytes (turned a.sealing (round_keys_in64 a.p.keys a.p.rounds) x)) (state-64 64 a.block.now refl)
    ∙ turned-in-64 a.sealing a.p a.block.now c.if-p-eq64.true)

pub returns-else-p-eq64 : goal.returns-else-p-eq64
returns-else-p-eq64 c =
    let a = c.args in
    served_answer (sym c.in_ok-for_block.ensures) c.turn_of-else-p-eq64.auto.out
    (c.turn_of-else-p-eq64.ensures
    ∙ ap (λ (x : State). bytes (turned a.sealing (round_keys_in128 a.p.keys a.p.rounds) x)) (state-128 128 a.block.now (λ e. omega (arith, e)))
    ∙ turned-in-128 a.sealing a.p a.block.now c.if-p-eq64.false)
