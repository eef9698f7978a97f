-- Part of a block's rounds by the definition: what the schedule of a key gives; parts that follow each other are one part; and all rounds are the block sealed
-- or opened.
-- Assumes nothing.
use Rattle.std.proofs.Common.{◌≡◌, ℕ, zero, suc, ◌+◌, ◌-◌, ◌*◌, ◌%◌, ◌^◌, ◌<◌, ◌≤◌, min, Bool, List, ltb, eqb, refl, sym, ap, ap₂, ◌∙◌, arith, lt-ltb, le-ltb, ltb-false, not-suc-le-zero}
use borrow.Author.Tests.{ltb-true}
use Rattle.fox_layers.specs.Lists.{numbered}
use Rattle.fox_layers.proofs.Laws.Lists.{by-test, numbered-same}
use Rattle.fox_rounds.specs.Skeleton.{through, size, round, between, place, turned}
use Rattle.fox_rounds.specs.declared.state.State.{State}
use Rattle.fox_rounds.proofs.Laws.Undoing.{Fits}
use Rattle.fox_key_register.specs.Register.{LFSR}
use Rattle.fox_key_schedule.specs.Schedule.{round_key, round_keys, key_at, step_block}
use Rattle.fox_key_schedule.specs.Step.{round_key_at, steps, Scheduled, stands, number, RegisterAt}
use Rattle.fox_key_schedule.specs.declared.schedule.Schedule.{Schedule}
use Rattle.fox_key_schedule.proofs.Laws.RegisterAt.{stands-lt}
use Rattle.fox_key_schedule.proofs.Laws.Schedules.{round_key-at, scheduled-steps, scheduled-at}
use Rattle.fox_refusals.specs.Refusals.{block_size}
use Rattle.fox_block.specs.Block.{state, bytes, BlockOf}
use Rattle.fox_block.proofs.Laws.Block.{state-size}
use Rattle.fox_block.proofs.Laws.States.{state-bytes, state-fits}
use Rattle.fox_card_block.specs.Hold.{rounds_on}
use Rattle.fox_card_block.specs.Part.{least, in_hand, parted}
use Rattle.fox_card_block.specs.declared.rounds.Hold.{Hold}
use Rattle.fox_card_block.proofs.Laws.Hold.{rounds_on-lt, rounds_on-fits, rounds_on-size, rounds_on-cut, stopped-on, turned_on}

pub least-below : (a b : ℕ) → a < b → least a b ≡ a
unfolding least
least-below a b h = simp (lt-ltb a b h)

pub least_above : (a b : ℕ) → b ≤ a → least a b ≡ b
unfolding least
least_above a b h = simp (le-ltb a b h)

-- the library's name for it
pub least-min : (a b : ℕ) → least a b ≡ min a b
unfolding least
least-min a b = by-test (ltb a b) (λ t. rw t (omega (arith, ltb-true a b t))) (λ t. rw t (omega (arith, ltb-false a b t)))

pub least-most : (a b : ℕ) → least a b ≤ b
unfolding least
least-most a b = by-test (ltb a b) (λ t. rw t (omega (arith, ltb-true a b t))) (λ t. rw t (omega arith))

pub least-le : (a b r : ℕ) → a ≤ b → least a r ≤ least b r
unfolding least
least-le a b r h =
    by-test (ltb a r)
    (λ t. by-test (ltb b r) (λ u. rw (t, u) h) (λ u. rw (t, u) (omega (arith, ltb-true a r t))))
    (λ t. by-test (ltb b r) (λ u. absurd (omega (arith, ltb-false a r t, ltb-true b r u))) (λ u. rw (t, u) (omega arith)))

module _ (d : Bool) (g r : ℕ) where
  pub in_hand-first : (i reg : ℕ) → i ≡ 0 → in_hand d g r i reg ≡ stands g r (number d r 0)
  unfolding in_hand
  in_hand-first i reg e = ap (λ (j : ℕ). in_hand d g r j reg) e

  pub in_hand-later : (i reg : ℕ) → (i ≡ 0 → ⊥) → in_hand d g r i reg ≡ reg % 2 ^ 24
  unfolding in_hand
  in_hand-later zero reg isnt = absurd (isnt refl)
  in_hand-later (suc i) reg isnt = refl

pub in_hand-lt : (d : Bool) (g r i reg : ℕ) → r < 256 → in_hand d g r i reg < 2 ^ 24
unfolding in_hand
in_hand-lt d g r zero reg few = stands-lt g r few (number d r 0)
in_hand-lt d g r (suc i) reg few = omega arith

module _ (d : Bool) (c r : ℕ) (key : List ℕ) where
  -- what code does with the schedule of a key is the definition's part
  pub parted-scheduled : (s : Schedule) → Scheduled c key s → (i j reg : ℕ) (block : List ℕ) {done : Hold} {x : State} {from until first : ℕ}
      → from ≡ least i r → until ≡ least j r → x ≡ state c block → first ≡ in_hand d (steps s) r i reg
      → done ≡ rounds_on d (round_key_at s) (steps s) from (until - from) (record { state = x; reg = first }) → done ≡ parted d c r key i j reg block
  unfolding parted
  parted-scheduled s is i j reg block from until x first e =
      let at : round_key_at s ≡ key_at c key = λ t y. scheduled-at c key s is y t in
      let g : steps s ≡ step_block c key = scheduled-steps c key s is in
      let begun = first ∙ ap (λ (n : ℕ). in_hand d n r i reg) g in
      e ∙ (λ t. rounds_on d (at t) (g t) (from t) (until t - from t) (record { state = x t; reg = begun t }))

  module _ (i j reg : ℕ) (block : List ℕ) where
    pub parted-size : size (parted d c r key i j reg block).state ≡ block_size c
    unfolding parted
    parted-size = rounds_on-size d (key_at c key) (step_block c key) (least i r) (least j r - least i r) _ ∙ state-size c block

    pub parted-fits : BlockOf c block → Fits (eqb c 64) (parted d c r key i j reg block).state
    unfolding parted
    parted-fits b = rounds_on-fits d (key_at c key) (step_block c key) (eqb c 64) (least i r) (least j r - least i r) _ (state-fits c block b)

    pub parted-lt : r < 256 → (parted d c r key i j reg block).reg < 2 ^ 24
    unfolding parted
    parted-lt few =
        rounds_on-lt d (key_at c key) (step_block c key) (least i r) (least j r - least i r) _ (in_hand-lt d (step_block c key) r i reg few)

  -- the register that a part hands on is in hand for the next one
  in_hand-again : (i j reg : ℕ) (block : List ℕ) → i ≤ j → r < 256
      → in_hand d (step_block c key) r j (parted d c r key i j reg block).reg ≡ (parted d c r key i j reg block).reg
  unfolding in_hand parted rounds_on
  in_hand-again zero zero reg block le few =
      let h : Hold = record { state = state c block; reg = stands (step_block c key) r (number d r 0) } in
      let nothing : 0 ≡ least 0 r - least 0 r = omega arith in
      ap (λ (n : ℕ). (rounds_on d (key_at c key) (step_block c key) (least 0 r) n h).reg) nothing
  in_hand-again (suc i) zero reg block le few = absurd (not-suc-le-zero le)
  in_hand-again i (suc j) reg block le few = omega (arith, parted-lt i (suc j) reg block few)

  -- a part, and the part that follows from its bytes and its register, are one part
  pub parted-joined : (i j k reg : ℕ) (block : List ℕ) → BlockOf c block → i ≤ j → least j r ≤ least k r → r < 256
      → parted d c r key j k (parted d c r key i j reg block).reg (bytes (parted d c r key i j reg block).state) ≡ parted d c r key i k reg block
  unfolding parted
  parted-joined i j k reg block b le most few =
      let at = key_at c key in
      let g = step_block c key in
      let h : Hold = record { state = state c block; reg = in_hand d g r i reg } in
      let mid = parted d c r key i j reg block in
      let kept = state-bytes c mid.state (parted-fits i j reg block b) in
      let again = in_hand-again i j reg block le few in
      let order = least-le i j r le in
      let here : least j r ≡ least i r + (least j r - least i r) = omega arith in
      let all : least j r - least i r + (least k r - least j r) ≡ least k r - least i r = omega arith in
      (λ t. rounds_on d at g (least j r) (least k r - least j r) (record { state = kept t; reg = again t }))
      ∙ ap (λ (n : ℕ). rounds_on d at g n (least k r - least j r) mid) here
      ∙ rounds_on-cut d at g (least i r) (least j r - least i r) (least k r - least j r) h
      ∙ ap (λ (n : ℕ). rounds_on d at g (least i r) n h) all

  module _ (reg : ℕ) (block : List ℕ) (some : 1 ≤ r) (few : r < 256) where
    abbrev g : ℕ
    g = step_block c key

    abbrev begun : Hold
    begun = record { state = state c block; reg = stands g r (number d r 0) }

    begins : RegisterAt g d r 0 (stands g r (number d r 0))
    begins = record { here = refl; small = stands-lt g r few (number d r 0) }

    parted-first : (n : ℕ) → parted d c r key 0 n reg block ≡ rounds_on d (key_at c key) g 0 (least n r) begun
    unfolding parted in_hand
    parted-first n =
        let none : least 0 r ≡ 0 = least-below 0 r some in
        let all : least n r - least 0 r ≡ least n r = rw none (omega arith) in
        ap₂ (λ (i m : ℕ). rounds_on d (key_at c key) g i m begun) none all

    -- stopped after n rounds: the register stands where the next round key does, and the state is that of the rounds with the first n round keys
    pub parted-stopped : (n : ℕ) → let h = parted d c r key 0 n reg block in
        (h.reg ≡ stands g r (number d r (least n r)))
        × (h.state ≡ through round (between d) (numbered (λ (j : ℕ). round_key c r key (place d r j)) (least n r) 0) (state c block))
    parted-stopped n =
        let m = least n r in
        let held = stopped-on d (key_at c key) g r (state c block) few m (least-most n r) begins in
        let keys = numbered-same (λ (j : ℕ). key_at c key (LFSR (place d r j * g) r)) (λ (j : ℕ). round_key c r key (place d r j)) m 0
        (λ j below. sym (round_key-at c r key (place d r j))) in (
          ap (λ (h : Hold). h.reg) (parted-first n) ∙ held.0.here,
          ap (λ (h : Hold). h.state) (parted-first n) ∙ held.1 ∙ ap (λ (ks : List ℕ). through round (between d) ks (state c block)) keys,
        )

    -- all rounds are the block sealed or opened
    pub parted-all : (parted d c r key 0 r reg block).state ≡ turned d (round_keys c r key) (state c block)
    unfolding round_keys
    parted-all =
        let at = key_at c key in
        let all : least r r ≡ r - 0 = rw (least_above r r (omega arith)) (omega arith) in
        ap (λ (h : Hold). h.state) (parted-first r ∙ ap (λ (m : ℕ). rounds_on d at g 0 m begun) all)
        ∙ turned_on d at g r (state c block) few some begins
        ∙ ap (λ (ks : List ℕ). turned d ks (state c block))
        (numbered-same (λ (i : ℕ). at (LFSR (i * g) r)) (round_key c r key) r 0 (λ i below. sym (round_key-at c r key i)))
