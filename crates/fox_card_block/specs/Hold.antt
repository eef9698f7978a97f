-- A block stopped between two rounds, in the card's hand: its state and the register's value for the next round; and the rounds that go on from there.
-- Assumes nothing.
use Rattle.std.specs.Prelude.{ℕ, zero, suc, ◌+◌, Bool}
use Rattle.fox_rounds.specs.Skeleton.{round, between}
use Rattle.fox_rounds.specs.declared.state.State.{State}
use Rattle.fox_key_register.specs.Register.{stepped}
use Rattle.fox_card_block.specs.declared.rounds.Hold.{Hold}

-- what comes before round number i, counted from 0: nothing before the first, and "or" in sealing or "io" in opening before every other
unfoldable pub led : Bool → ℕ → State → State
led sealing zero y = y
led sealing (suc i) y = between sealing y

-- round number i, where `at` has the round key at each register value: the round key is the one at the register's value, and the register goes a step block
-- of g steps on in sealing, or back in opening
unfoldable pub round_on : Bool → (ℕ → ℕ) → ℕ → ℕ → Hold → Hold
round_on sealing at g i h = record { state = round (at h.reg) (led sealing i h.state); reg = stepped sealing g h.reg }

-- n rounds, the first of them number i
unfoldable pub rounds_on : Bool → (ℕ → ℕ) → ℕ → ℕ → ℕ → Hold → Hold
rounds_on sealing at g i zero h = h
rounds_on sealing at g i (suc n) h = round_on sealing at g (i + n) (rounds_on sealing at g i n h)
