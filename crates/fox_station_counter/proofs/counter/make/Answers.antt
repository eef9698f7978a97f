-- `counter::make` meets its contract: past the refusals the room is as long as the cipher's block, and what is written there is the definition's value.
-- Assumes nothing.
use Rattle.std.proofs.Common.{sym}
use Rattle.fox_refusals.proofs.Laws.Refusals.{counter-known}
use Rattle.fox_refusals.proofs.Laws.Reply.{served_answer}
use Rattle.fox_station_counter.proofs.counter.make.Goals as goal

pub lay-requires : goal.lay-requires
lay-requires c = (counter-known _ _ (sym c.in_ok-for_counter.ensures)).1

pub returns : goal.returns
returns c = served_answer (sym c.in_ok-for_counter.ensures) c.lay.auto.out c.lay.ensures
