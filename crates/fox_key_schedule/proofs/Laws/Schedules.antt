-- Which key schedule a key takes (001 Fig. 8), and the round keys of a key, one after the other, as its `Schedule` gives them.
-- Assumes nothing.
use mathlib.Core.Path.{◌≡◌, refl, sym, ap, ap₂, ◌∙◌}
use mathlib.Core.List.{List}
use mathlib.Core.Bool.{Bool, true, false, cond}
use Prim.Native.Nat.{ℕ, ◌+◌, ◌*◌, ◌^◌, ◌<◌, ◌≤◌}
use native.Mathlib.Nat.{zero-add}
use lib.Dec.{eqb}
use lib.ListN.{length}
use borrow.Author.Tests.{le-leb, lt-leb, eq-eqb, ne_eqb}
use Rattle.fox_layers.proofs.Laws.Lists.{numbered-same}
use Rattle.fox_rounds.specs.Skeleton.{place}
use Rattle.fox_key_mixing.specs.Padding.{mkey}
use Rattle.fox_key_register.specs.Register.{LFSR}
use Rattle.fox_key_mixing.specs.Diversification.{groups, dkey}
use Rattle.fox_key_nonlinear.specs.Nonlinear.{NL64, NL64h, NL128}
use Rattle.fox_key_nonlinear.proofs.Laws.Width.{NL128-lt}
use Rattle.fox_key_nonlinear.specs.declared.nl128.Key128.{Key128}
use Rattle.fox_key_schedule.specs.Schedule.{ek64, ek128, round_key_at64, round_key_at128, round_key64, round_key128, round_key, key_at, step_block, round_keys}
use Rattle.fox_key_schedule.specs.Step.{round_key_at, steps, Scheduled, round_key_of, narrow, KeyAt, round_keys_of, RegisterAt}
use Rattle.fox_key_schedule.specs.declared.schedule.Schedule.{Schedule}
use Rattle.fox_key_schedule.specs.declared.schedule.Schedule.TheVariants.{Ks64, Ks64h, Ks128}
use Rattle.fox_key_schedule.proofs.Laws.RegisterAt.{register_at-place}

-- KS64
pub round_key_at64-ks64 : (key : List ℕ) (reg : ℕ) → length key ≤ 16
    → round_key_at64 key reg ≡ NL64 (eqb (length key) 16) (dkey (mkey 16 key) reg)
unfolding round_key_at64 ek64
round_key_at64-ks64 key reg h = simp (le-leb _ _ h)

-- KS64h
pub round_key_at64-ks64h : (key : List ℕ) (reg : ℕ) → 16 < length key
    → round_key_at64 key reg ≡ NL64h (eqb (length key) 32) (dkey (mkey 32 key) reg)
unfolding round_key_at64 ek64
round_key_at64-ks64h key reg h = simp (lt-leb _ _ h)

pub groups-ks64 : (len : ℕ) → len ≤ 16 → groups (ek64 len) ≡ 6
unfolding groups ek64
groups-ks64 len h = simp (le-leb _ _ h)

pub groups-ks64h : (len : ℕ) → 16 < len → groups (ek64 len) ≡ 11
unfolding groups ek64
groups-ks64h len h = simp (lt-leb _ _ h)

pub round_key-64 : (c r : ℕ) (key : List ℕ) (i : ℕ) → c ≡ 64 → round_key c r key i ≡ round_key64 r key i
unfolding round_key
round_key-64 c r key i e = simp (eq-eqb c 64 e)

pub round_key-128 : (c r : ℕ) (key : List ℕ) (i : ℕ) → (c ≡ 64 → ⊥) → round_key c r key i ≡ round_key128 r key i
unfolding round_key
round_key-128 c r key i n = simp (ne_eqb c 64 n)

-- the round keys of FOX128 fit two words
pub round_key128-lt : (r : ℕ) (key : List ℕ) (i : ℕ) → round_key128 r key i < 2 ^ 128
unfolding round_key128 round_key_at128
round_key128-lt r key i = NL128-lt _ _

-- a round key of the definition is the one at the register's value for it
pub round_key-at : (c r : ℕ) (key : List ℕ) (i : ℕ) → round_key c r key i ≡ key_at c key (LFSR (i * step_block c key) r)
unfolding round_key round_key64 round_key128 key_at step_block
round_key-at c r key i = both (eqb c 64)
  where
    both : (t : Bool)
        → cond t (round_key_at64 key (LFSR (i * groups (ek64 (length key))) r)) (round_key_at128 key (LFSR (i * groups ek128) r))
        ≡ cond t (round_key_at64 key (LFSR (i * cond t (groups (ek64 (length key))) (groups ek128)) r))
        (round_key_at128 key (LFSR (i * cond t (groups (ek64 (length key))) (groups ek128)) r))
    both true = refl
    both false = refl

-- the schedule of a key has the step block of that key
pub scheduled-steps : (c : ℕ) (key : List ℕ) (s : Schedule) → Scheduled c key s → steps s ≡ step_block c key
unfolding Scheduled steps step_block ek128 groups
scheduled-steps c key (Ks64 m flip) is = sym (rw (eq-eqb c 64 is.0) (groups-ks64 (length key) is.1))
scheduled-steps c key (Ks64h m flip) is = sym (rw (eq-eqb c 64 is.0) (groups-ks64h (length key) is.1))
scheduled-steps c key (Ks128 m flip) is = sym (rw (ne_eqb c 64 is.0) refl)

-- and makes the round keys of that key, at every register value
pub scheduled-at : (c : ℕ) (key : List ℕ) (s : Schedule) → Scheduled c key s → (reg : ℕ) → round_key_at s reg ≡ key_at c key reg
unfolding Scheduled round_key_at key_at round_key_at128 ek128
scheduled-at c key (Ks64 m flip) is reg =
    ap₂ (λ (f : Bool) (ms : List ℕ). NL64 f (dkey ms reg)) is.3 is.2
    ∙ sym (round_key_at64-ks64 key reg is.1)
    ∙ sym (rw (eq-eqb c 64 is.0) refl)
scheduled-at c key (Ks64h m flip) is reg =
    ap₂ (λ (f : Bool) (ms : List ℕ). NL64h f (dkey ms reg)) is.3 is.2
    ∙ sym (round_key_at64-ks64h key reg is.1)
    ∙ sym (rw (eq-eqb c 64 is.0) refl)
scheduled-at c key (Ks128 m flip) is reg =
    ap₂ (λ (f : Bool) (ms : List ℕ). NL128 f (dkey ms reg)) is.2 is.1 ∙ sym (rw (ne_eqb c 64 is.0) refl)

-- so it gives the round keys of that key
pub scheduled-key : (c r : ℕ) (key : List ℕ) (s : Schedule) → Scheduled c key s → (i : ℕ) → round_key c r key i ≡ round_key_of s r i
unfolding round_key_of
scheduled-key c r key s is i =
    round_key-at c r key i
    ∙ ap (λ (g : ℕ). key_at c key (LFSR (i * g) r)) (sym (scheduled-steps c key s is))
    ∙ sym (scheduled-at c key s is (LFSR (i * steps s) r))

-- all round keys of a key, in their order
pub round_keys-scheduled : (c r : ℕ) (key : List ℕ) (s : Schedule) → Scheduled c key s → round_keys c r key ≡ round_keys_of s r
unfolding round_keys
round_keys-scheduled c r key s is =
    numbered-same (round_key c r key) (round_key_of s r) r 0 (λ i h. scheduled-key c r key s is i)

-- a round key of 64 bits is its right word; one of 128 bits has these halves
pub right-round_key_at : {s : Schedule} {reg : ℕ} {k : Key128} → KeyAt s reg k → narrow s ≡ true → k.right ≡ round_key_at s reg
right-round_key_at {k = k} m e = sym (zero-add k.right) ∙ ap (λ (l : ℕ). l * 2 ^ 64 + k.right) (sym (m.short e)) ∙ m.whole

-- the schedule of a key of FOX64 is narrow
pub scheduled-narrow : (c : ℕ) (key : List ℕ) (s : Schedule) → Scheduled c key s → c ≡ 64 → narrow s ≡ true
unfolding Scheduled narrow
scheduled-narrow c key (Ks64 m flip) is e = refl
scheduled-narrow c key (Ks64h m flip) is e = refl
scheduled-narrow c key (Ks128 m flip) is e = absurd (is.0 e)

-- the round key at the register's value for a round is the one that this round takes
pub register_at-key : (s : Schedule) (r : ℕ) (d : Bool) (i : ℕ) {reg : ℕ} → i < r → RegisterAt (steps s) d r i reg
    → round_key_at s reg ≡ round_key_of s r (place d r i)
unfolding round_key_of
register_at-key s r d i h at = ap (round_key_at s) (register_at-place (steps s) r d i h at)
