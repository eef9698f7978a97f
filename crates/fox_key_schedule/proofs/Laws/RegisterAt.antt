-- Where round keys stand: from one to the next and to the one before, the two ends beyond included; and the register from round to round, in sealing and in
-- opening.
-- Assumes nothing.
use mathlib.Core.Path.{◌≡◌, sym, ap, ◌∙◌, subst}
use mathlib.Core.Bool.{Bool, true, false}
use Prim.Native.Nat.{ℕ, zero, suc, ◌+◌, ◌-◌, ◌*◌, ◌^◌, ◌<◌, ◌≤◌}
use native.Mathlib.Nat.{zero-mul, add-mul, one-mul, mul-le-mul_left, not-suc-le-zero}
use native.Mathlib.Omega.{arith}
use lib.Dec.{lit≤}
use Rattle.fox_key_register.specs.Register.{seed, clocked, iterate, LFSR, step, stepped}
use Rattle.fox_key_register.proofs.Laws.Register.{seed-lt, LFSR-lt, LFSR-on, LFSR-back, stepped-lt, stepped-undone}
use Rattle.fox_rounds.specs.Skeleton.{place}
use Rattle.fox_key_schedule.specs.Step.{steps, RoundKeyAt, onward, stands, number, RegisterAt}
use Rattle.fox_key_schedule.specs.declared.schedule.RoundKey.{RoundKey}
use Rattle.fox_key_schedule.specs.declared.schedule.Schedule.{Schedule}
use Rattle.fox_key_schedule.specs.declared.schedule.Schedule.TheVariants.{Ks64, Ks64h, Ks128}

steps-few : (s : Schedule) → steps s ≤ 11
unfolding steps
steps-few (Ks64 m flip) = lit≤ tt
steps-few (Ks64h m flip) = lit≤ tt
steps-few (Ks128 m flip) = lit≤ tt

-- the steps of n step blocks, at most 2,805, fit a word
pub few-steps : (n : ℕ) (s : Schedule) {k : ℕ} → n < 256 → k ≡ steps s → n * k < 2 ^ 32
few-steps n s {k} h e =
    let bound : k ≤ 11 = rw e (steps-few s) in
    let most : n * k ≤ n * 11 = mul-le-mul_left n bound in
    omega arith

-- the register that a round key hands on
pub onward-stepped : (d : Bool) {s : Schedule} {reg : ℕ} {k : RoundKey} → RoundKeyAt s reg k → onward d k ≡ stepped d (steps s) reg
unfolding onward
onward-stepped true m = m.next
onward-stepped false m = m.before

one_more : (i g : ℕ) → i * g + g ≡ (i + 1) * g
one_more i g = ap (λ (n : ℕ). i * g + n) (sym (one-mul g)) ∙ sym (add-mul i 1 g)

module _ (g r : ℕ) where
  -- the first round key stands at the seed
  pub stands-first : stands g r 1 ≡ seed r
  unfolding stands LFSR iterate
  stands-first = ap (λ (n : ℕ). iterate n clocked (seed r)) (zero-mul g)

  pub stands_at : (i : ℕ) → 1 ≤ i → stands g r i ≡ LFSR ((i - 1) * g) r
  unfolding stands
  stands_at zero some = absurd (not-suc-le-zero some)
  stands_at (suc i) some =
      let here : i ≡ suc i - 1 = omega arith in
      ap (λ (n : ℕ). LFSR (n * g) r) here

  next-inside : (i : ℕ) → 1 ≤ i → stepped true g (stands g r i) ≡ stands g r (i + 1)
  next-inside i some =
      let same : i - 1 + 1 ≡ i + 1 - 1 = omega arith in
      ap (stepped true g) (stands_at i some)
      ∙ LFSR-on ((i - 1) * g) g r
      ∙ ap (λ (n : ℕ). LFSR n r) (one_more (i - 1) g ∙ ap (λ (n : ℕ). n * g) same)
      ∙ sym (stands_at (i + 1) (omega arith))

  module _ (few : r < 256) where
    -- from the place before the first round key too
    pub stands-next : (i : ℕ) → stepped true g (stands g r i) ≡ stands g r (i + 1)
    unfolding stands
    stands-next zero =
        let one : 1 ≡ zero + 1 = omega arith in
        stepped-undone false g (seed r) (seed-lt r few) ∙ sym stands-first ∙ ap (stands g r) one
    stands-next (suc i) = next-inside (suc i) (omega arith)

    pub stands-before : (i : ℕ) → 1 ≤ i → stepped false g (stands g r i) ≡ stands g r (i - 1)
    unfolding stands
    stands-before zero some = absurd (not-suc-le-zero some)
    stands-before (suc zero) some = ap (stepped false g) stands-first
    stands-before (suc (suc i)) some =
        let next : suc i ≡ i + 1 = omega arith in
        let here : suc i ≡ suc (suc i) - 1 = omega arith in
        ap (λ (n : ℕ). stepped false g (LFSR n r)) (ap (λ (n : ℕ). n * g) next ∙ sym (one_more i g))
        ∙ LFSR-back (i * g) g r few
        ∙ ap (stands g r) here

    pub stands-lt : (i : ℕ) → stands g r i < 2 ^ 24
    unfolding stands
    stands-lt zero = stepped-lt false g (seed r) (seed-lt r few)
    stands-lt (suc i) = LFSR-lt (i * g) r few

    -- from a round to the next, also past the last one
    pub register_at-next : (d : Bool) (i : ℕ) {reg : ℕ} → i < r → RegisterAt g d r i reg → RegisterAt g d r (i + 1) (stepped d g reg)
    unfolding number
    register_at-next true i h at =
        let same : suc i + 1 ≡ suc (i + 1) = omega arith in
        record {
          here = ap (stepped true g) at.here ∙ stands-next (suc i) ∙ ap (stands g r) same;
          small = stepped-lt true g _ at.small;
        }
    register_at-next false i h at =
        let same : r - i - 1 ≡ r - (i + 1) = omega arith in
        record {
          here = ap (stepped false g) at.here ∙ stands-before (r - i) (omega arith) ∙ ap (stands g r) same;
          small = stepped-lt false g _ at.small;
        }

  -- the value for the first round of sealing is the seed
  pub register_at-first : {reg : ℕ} → reg ≡ seed r → reg < 2 ^ 24 → RegisterAt g true r 0 reg
  unfolding number
  register_at-first e h = record { here = e ∙ sym stands-first; small = h }

  -- and that of opening the one for the last round key
  pub register_at-last : {reg to : ℕ} → 1 ≤ r → reg ≡ seed r → to ≡ stepped true ((r - 1) * g) reg → to < 2 ^ 24 → RegisterAt g false r 0 to
  unfolding number stepped step LFSR
  register_at-last some at moved h =
      let all : r ≡ r - 0 = omega arith in
      record { here = moved ∙ ap (iterate ((r - 1) * g) clocked) at ∙ sym (stands_at r some) ∙ ap (stands g r) all; small = h }

  -- the register's value for a round is that of the round key which it takes
  pub register_at-place : (d : Bool) (i : ℕ) {reg : ℕ} → i < r → RegisterAt g d r i reg → reg ≡ LFSR (place d r i * g) r
  unfolding number place stands
  register_at-place true i h at = at.here
  register_at-place false i h at =
      let same : r - i - 1 ≡ r - 1 - i = omega arith in
      at.here ∙ stands_at (r - i) (omega arith) ∙ ap (λ (n : ℕ). LFSR (n * g) r) same

-- sealing or opening, from a round to the next by the round key that was made for it
pub register_at-on : (s : Schedule) (r : ℕ) (d : Bool) (i : ℕ) {reg : ℕ} {k : RoundKey} → r < 256 → i < r → RegisterAt (steps s) d r i reg
    → RoundKeyAt s reg k → RegisterAt (steps s) d r (i + 1) (onward d k)
register_at-on s r d i few h at m =
    subst (RegisterAt (steps s) d r (i + 1)) (sym (onward-stepped d m)) (register_at-next (steps s) r few d i h at)
