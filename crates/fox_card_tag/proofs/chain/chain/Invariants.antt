-- `chain::chain` meets its contract: whenever the loop's test is reached, the state is that of the chain over the first i blocks, the last among them.
-- Assumes nothing.
use Prim.Native.Nat.{◌+◌, ◌^◌, ◌≤◌, ◌<◌}
use Rattle.fox_key_schedule.specs.Step.{round_keys_of}
use Rattle.fox_tag.proofs.Laws.ByStates.{ChainedState, with_last}
use Rattle.fox_card_tag.proofs.chain.chain.Given as goal

abbrev pub invariant-loop-i : goal.invariant-loop-i
invariant-loop-i l =
    (l.i ≤ l.n + 1) × (l.n + 1 < 2 ^ 64) × ChainedState l.cipher (round_keys_of l.s l.rounds) (with_last l.cipher (round_keys_of l.s l.rounds) l.message l.out l.n) l.i l.y
