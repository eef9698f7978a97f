-- What a made round key hands on, on calls. Made where round key number i stands, counted from 1, it is that round key; `next` is where number i + 1 stands,
-- for every i from 0 on, and `before` where number i - 1 stands, for every i from 1 on, so that the places beyond either end are among them. From any
-- register `before` of `next` is where it was, and so is `next` of `before`.
-- Assumes nothing.
use mathlib.Core.Path.{◌≡◌, sym, ap, ◌∙◌}
use mathlib.Core.Bool.{true, false}
use mathlib.Core.List.{List}
use Prim.Native.Nat.{ℕ, ◌+◌, ◌-◌, ◌*◌, ◌^◌, ◌<◌, ◌≤◌}
use Rattle.fox_key_register.specs.Register.{stepped}
use Rattle.fox_key_register.proofs.Laws.Register.{stepped-undone}
use Rattle.fox_key_schedule.specs.Schedule.{round_key, step_block}
use Rattle.fox_key_schedule.specs.Step.{Scheduled, steps, round_key_at, round_key_of, RoundKeyAt, stands}
use Rattle.fox_key_schedule.specs.declared.schedule.RoundKey.{RoundKey}
use Rattle.fox_key_schedule.specs.declared.schedule.Schedule.{Schedule}
use Rattle.fox_key_schedule.proofs.Laws.RegisterAt.{stands_at, stands-next, stands-before}
use Rattle.fox_key_schedule.proofs.Laws.Schedules.{scheduled-key, scheduled-steps}

-- by the schedule of a key, for r rounds
module _ (c r : ℕ) (key : List ℕ) (s : Schedule) (is : Scheduled c key s) (few : r < 256) (i : ℕ) {k : RoundKey}
    (made : RoundKeyAt s (stands (step_block c key) r i) k) where
  abbrev g : ℕ
  g = step_block c key

  same : g ≡ steps s
  same = sym (scheduled-steps c key s is)

  -- round keys of the definition are counted from 0
  pub key-stands : 1 ≤ i → k.key.left * 2 ^ 64 + k.key.right ≡ round_key c r key (i - 1)
  unfolding round_key_of
  key-stands some =
      made.key.whole
      ∙ ap (round_key_at s) (ap (λ (n : ℕ). stands n r i) same ∙ stands_at (steps s) r i some)
      ∙ sym (scheduled-key c r key s is (i - 1))

  pub next-stands : k.next ≡ stands g r (i + 1)
  next-stands = made.next ∙ ap (λ (n : ℕ). stepped true n (stands g r i)) (sym same) ∙ stands-next g r few i

  pub before_stands : 1 ≤ i → k.before ≡ stands g r (i - 1)
  before_stands some = made.before ∙ ap (λ (n : ℕ). stepped false n (stands g r i)) (sym same) ∙ stands-before g r few i some

-- from any register
module _ (s : Schedule) (reg : ℕ) {k l : RoundKey} (small : reg < 2 ^ 24) (made : RoundKeyAt s reg k) where
  pub before-of-next : RoundKeyAt s k.next l → l.before ≡ reg
  before-of-next again = again.before ∙ ap (stepped false (steps s)) made.next ∙ stepped-undone true (steps s) reg small

  pub next-of-before : RoundKeyAt s k.before l → l.next ≡ reg
  next-of-before again = again.next ∙ ap (stepped true (steps s)) made.before ∙ stepped-undone false (steps s) reg small
