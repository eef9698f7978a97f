-- `run::run` meets its contract: past the refusals the key's schedule gives the round keys of the definition, and what is written is the definition's value.
-- Assumes nothing.
use Rattle.std.proofs.Common.{ℕ, List, sym, ap₂, ◌∙◌, arith}
use Rattle.fox_rounds.specs.declared.state.State.{State}
use Rattle.fox_key_schedule.proofs.Laws.Schedules.{round_keys-scheduled}
use Rattle.fox_refusals.proofs.Laws.Refusals.{stretched}
use Rattle.fox_refusals.proofs.Laws.Reply.{served_answer}
use Rattle.fox_key_schedule.specs.Schedule.{round_keys}
use Rattle.fox_run.specs.Run.{xor_from}
use Rattle.fox_run.specs.States.{stream}
use Rattle.fox_run.proofs.Laws.Streams.{run-streamed}
use Rattle.fox_card_run.proofs.run.run.Goals as goal

pub of-s-requires : goal.of-s-requires
of-s-requires c = (stretched _ _ _ _ _ _ _ _ (sym c.in_ok-for_run.ensures)).keyed.key

pub read-x-requires : goal.read-x-requires
read-x-requires c = (stretched _ _ _ _ _ _ _ _ (sym c.in_ok-for_run.ensures)).counter

pub overflow_cast-rounds : goal.overflow_cast-rounds
overflow_cast-rounds c = record { fits = omega (arith, (stretched _ _ _ _ _ _ _ _ (sym c.in_ok-for_run.ensures)).keyed.high) }

pub stretch-requires : goal.stretch-requires
stretch-requires c =
    let known = stretched _ _ _ _ _ _ _ _ (sym c.in_ok-for_run.ensures) in
    (omega (arith, known.keyed.low), known.end, known.output)

pub returns : goal.returns
returns c =
    let a = c.args in
    let zero = sym c.in_ok-for_run.ensures in
    served_answer zero c.stretch.auto.out
    (c.stretch.ensures
    ∙ ap₂ (λ (ks : List ℕ) (x : State). xor_from (stream ks x) a.offset a.input.now)
    (sym (round_keys-scheduled a.cipher _ a.key.now c.of-s.result c.of-s.ensures)) c.read-x.ensures
    ∙ run-streamed a.cipher (round_keys a.cipher a.rounds a.key.now) a.counter.now a.offset a.input.now (stretched _ _ _ _ _ _ _ _ zero).counter)
