-- Rounds of a block in hand: cut anywhere they are the same rounds, and all of them, from the first on, are the block sealed or opened.
-- Assumes nothing.
use mathlib.Core.Path.{◌≡◌, refl, ap, ap₂, ◌∙◌, subst}
use mathlib.Core.Bool.{Bool}
use Prim.Native.Nat.{ℕ, zero, suc, ◌+◌, ◌-◌, ◌*◌, ◌^◌, ◌<◌, ◌≤◌}
use native.Mathlib.Omega.{arith}
use Rattle.fox_layers.specs.Lists.{numbered}
use Rattle.fox_rounds.specs.Skeleton.{size, round, between, turned}
use Rattle.fox_rounds.specs.declared.state.State.{State}
use Rattle.fox_rounds.proofs.Laws.Skeleton.{TurnDone, turn_done-none, turn_done-one, turn_done-more, turn_done-all}
use Rattle.fox_rounds.proofs.Laws.Undoing.{Fits, round-fits, between-fits}
use Rattle.fox_key_register.specs.Register.{LFSR}
use Rattle.fox_key_register.proofs.Laws.Register.{stepped-lt}
use Rattle.fox_key_schedule.specs.Step.{round_key_at, steps, RoundKeyAt, onward, RegisterAt}
use Rattle.fox_key_schedule.specs.declared.schedule.RoundKey.{RoundKey}
use Rattle.fox_key_schedule.specs.declared.schedule.Schedule.{Schedule}
use Rattle.fox_key_schedule.proofs.Laws.RegisterAt.{onward-stepped, register_at-next, register_at-place}
use Rattle.fox_block.proofs.Laws.Block.{round-size, between-size}
use Rattle.fox_card_block.specs.Hold.{led, round_on, rounds_on}
use Rattle.fox_card_block.specs.declared.rounds.Hold.{Hold}

pub led-first : (d : Bool) (i : ℕ) (y : State) → i ≡ 0 → led d i y ≡ y
unfolding led
led-first d i y e = ap (λ (j : ℕ). led d j y) e

pub led-later : (d : Bool) (i : ℕ) (y : State) → (i ≡ 0 → ⊥) → led d i y ≡ between d y
unfolding led
led-later d zero y isnt = absurd (isnt refl)
led-later d (suc i) y isnt = refl

led-fits : (d b : Bool) (i : ℕ) (y : State) → Fits b y → Fits b (led d i y)
unfolding led
led-fits d b zero y f = f
led-fits d b (suc i) y f = between-fits d b y f

led-size : (d : Bool) (i : ℕ) (y : State) → size (led d i y) ≡ size y
unfolding led
led-size d zero y = refl
led-size d (suc i) y = between-size d y

-- a round as code does it, with the round key that was made at the register's value
pub round_on-made : (d : Bool) (s : Schedule) (i : ℕ) (h : Hold) {k : RoundKey} {x y : State} {to : ℕ} → RoundKeyAt s h.reg k → x ≡ led d i h.state
    → y ≡ round (k.key.left * 2 ^ 64 + k.key.right) x → to ≡ onward d k → record { state = y; reg = to } ≡ round_on d (round_key_at s) (steps s) i h
unfolding round_on
round_on-made d s i h made before done moved =
    let state = done ∙ ap₂ (λ (n : ℕ) (z : State). round n z) made.key.whole before in
    let reg = moved ∙ onward-stepped d made in
    λ t. record { state = state t; reg = reg t }

module _ (d : Bool) (at : ℕ → ℕ) (g : ℕ) where
  -- the register stays within 24 bits
  pub rounds_on-lt : (i n : ℕ) (h : Hold) → h.reg < 2 ^ 24 → (rounds_on d at g i n h).reg < 2 ^ 24
  unfolding rounds_on round_on
  rounds_on-lt i zero h small = small
  rounds_on-lt i (suc n) h small = stepped-lt d g (rounds_on d at g i n h).reg (rounds_on-lt i n h small)

  -- and the words of the state within 32
  pub rounds_on-fits : (b : Bool) (i n : ℕ) (h : Hold) → Fits b h.state → Fits b (rounds_on d at g i n h).state
  unfolding rounds_on round_on
  rounds_on-fits b i zero h f = f
  rounds_on-fits b i (suc n) h f =
      let now = rounds_on d at g i n h in
      round-fits b (at now.reg) (led d (i + n) now.state) (led-fits d b (i + n) now.state (rounds_on-fits b i n h f))

  pub rounds_on-size : (i n : ℕ) (h : Hold) → size (rounds_on d at g i n h).state ≡ size h.state
  unfolding rounds_on round_on
  rounds_on-size i zero h = refl
  rounds_on-size i (suc n) h =
      let now = rounds_on d at g i n h in
      round-size (at now.reg) (led d (i + n) now.state) ∙ led-size d (i + n) now.state ∙ rounds_on-size i n h

  -- one round more
  pub rounds_on-next : (from i : ℕ) (h : Hold) → from ≤ i → round_on d at g i (rounds_on d at g from (i - from) h) ≡ rounds_on d at g from (i + 1 - from) h
  unfolding rounds_on
  rounds_on-next from i h le =
      let here : i ≡ from + (i - from) = omega arith in
      let next : suc (i - from) ≡ i + 1 - from = omega arith in
      ap (λ (j : ℕ). round_on d at g j (rounds_on d at g from (i - from) h)) here ∙ ap (λ (k : ℕ). rounds_on d at g from k h) next

  -- m rounds, and n rounds from there on, are m + n rounds
  pub rounds_on-cut : (i m n : ℕ) (h : Hold) → rounds_on d at g (i + m) n (rounds_on d at g i m h) ≡ rounds_on d at g i (m + n) h
  unfolding rounds_on
  rounds_on-cut i m zero h =
      let none : m ≡ m + zero = omega arith in
      ap (λ (k : ℕ). rounds_on d at g i k h) none
  rounds_on-cut i m (suc n) h =
      let more : suc (m + n) ≡ m + suc n = omega arith in
      let here : i + m + n ≡ i + (m + n) = omega arith in
      ap (round_on d at g (i + m + n)) (rounds_on-cut i m n h)
      ∙ ap (λ (j : ℕ). round_on d at g j (rounds_on d at g i (m + n) h)) here
      ∙ ap (λ (k : ℕ). rounds_on d at g i k h) more

-- with the round keys at the register's values for m rounds
module _ (d : Bool) (at : ℕ → ℕ) (g m : ℕ) (x : State) (few : m < 256) where
  abbrev pub keys : ℕ → ℕ
  keys i = at (LFSR (i * g) m)

  -- a block in hand after i rounds of x
  record Held (i : ℕ) (h : Hold) : Type 0 where
    stands : RegisterAt g d m i h.reg
    done : TurnDone d keys m x i h.state

  round-done : (i : ℕ) (h : Hold) → i < m → Held i h → TurnDone d keys m x (i + 1) (round_on d at g i h).state
  unfolding round_on led
  round-done zero h some held =
      turn_done-one d keys m x h.state _ zero refl held.done
      (ap (λ (k : ℕ). round (at k) h.state) (register_at-place g m d zero some held.stands))
  round-done (suc i) h some held =
      turn_done-more d keys m x h.state _ (suc i) (omega arith) held.done
      (ap (λ (k : ℕ). round (at k) (between d h.state)) (register_at-place g m d (suc i) some held.stands))

  held_next : (i : ℕ) (h : Hold) → i < m → Held i h → Held (i + 1) (round_on d at g i h)
  unfolding round_on
  held_next i h some held = record { stands = register_at-next g m few d i some held.stands; done = round-done i h some held }

  held_all : (n : ℕ) (h : Hold) → n ≤ m → Held 0 h → Held n (rounds_on d at g 0 n h)
  unfolding rounds_on
  held_all zero h all held = held
  held_all (suc n) h all held =
      let here : n ≡ 0 + n = omega arith in
      let next : n + 1 ≡ suc n = omega arith in
      let now = rounds_on d at g 0 n h in
      subst (λ (j : ℕ). Held (suc n) (round_on d at g j now)) here
      (subst (λ (j : ℕ). Held j (round_on d at g n now)) next (held_next n now (omega arith) (held_all n h (omega arith) held)))

  -- stopped after n rounds: the register stands where the next round key does, and the state is that of the rounds with the first n round keys
  pub stopped-on : {reg : ℕ} (n : ℕ) → n ≤ m → RegisterAt g d m 0 reg → let h = rounds_on d at g 0 n (record { state = x; reg = reg }) in
      RegisterAt g d m n h.reg × TurnDone d keys m x n h.state
  stopped-on {reg} n le first =
      let begun : Held 0 (record { state = x; reg = reg }) = record { stands = first; done = turn_done-none d keys m x } in
      let held = held_all n (record { state = x; reg = reg }) le begun in
      (held.stands, held.done)

  pub turned_on : {reg : ℕ} → 1 ≤ m → RegisterAt g d m 0 reg
      → (rounds_on d at g 0 (m - 0) (record { state = x; reg = reg })).state ≡ turned d (numbered (λ (i : ℕ). at (LFSR (i * g) m)) m 0) x
  turned_on {reg} some first =
      let all : m - 0 ≡ m = omega arith in
      turn_done-all d keys m x (rounds_on d at g 0 (m - 0) (record { state = x; reg = reg })).state some all (stopped-on (m - 0) (omega arith) first).1
