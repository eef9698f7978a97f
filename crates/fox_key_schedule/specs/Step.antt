-- What the code's `Schedule` gives: the round key at a register value, with the register for the round keys beside it, and where each round key stands.
-- Assumes nothing.
use Rattle.std.specs.Prelude.{◌≡◌, ℕ, zero, suc, ◌+◌, ◌-◌, ◌*◌, ◌^◌, ◌<◌, ◌≤◌, Bool, true, false, List, eqb, length}
use Rattle.fox_layers.specs.Lists.{numbered}
use Rattle.fox_key_mixing.specs.Padding.{mkey}
use Rattle.fox_key_register.specs.Register.{seed, LFSR, stepped}
use Rattle.fox_key_mixing.specs.Diversification.{dkey}
use Rattle.fox_key_mixing.specs.KeyBytes.{word_bytes}
use Rattle.fox_key_nonlinear.specs.Nonlinear.{NL64, NL64h, NL128}
use Rattle.fox_key_nonlinear.specs.declared.nl128.Key128.{Key128}
use Rattle.fox_key_schedule.specs.declared.schedule.RoundKey.{RoundKey}
use Rattle.fox_key_schedule.specs.declared.schedule.Schedule.{Schedule}
use Rattle.fox_key_schedule.specs.declared.schedule.Schedule.TheVariants.{Ks64, Ks64h, Ks128}

unfoldable pub round_key_at : Schedule → ℕ → ℕ
round_key_at (Ks64 m flip) reg = NL64 flip (dkey (word_bytes 8 m.words) reg)
round_key_at (Ks64h m flip) reg = NL64h flip (dkey (word_bytes 8 m.words) reg)
round_key_at (Ks128 m flip) reg = NL128 flip (dkey (word_bytes 8 m.words) reg)

-- whether the round keys have 64 bits, which is FOX64
unfoldable pub narrow : Schedule → Bool
narrow (Ks64 m flip) = true
narrow (Ks64h m flip) = true
narrow (Ks128 m flip) = false

-- the round key at the register value reg, as two words of 64 bits; for FOX64 the left word is 0
pub record KeyAt (s : Schedule) (reg : ℕ) (k : Key128) : Type 0 where
  pub whole : k.left * 2 ^ 64 + k.right ≡ round_key_at s reg
  pub short : narrow s ≡ true → k.left ≡ 0

-- register steps from one round key to the next, which are a step block
unfoldable pub steps : Schedule → ℕ
steps (Ks64 m flip) = 6
steps (Ks64h m flip) = 11
steps (Ks128 m flip) = 11

-- what making the round key at the register value reg hands back, whole: the key, and the register one step block on and one step block back
pub record RoundKeyAt (s : Schedule) (reg : ℕ) (k : RoundKey) : Type 0 where
  pub key : KeyAt s reg k.key
  pub next : k.next ≡ stepped true (steps s) reg
  pub before : k.before ≡ stepped false (steps s) reg

-- the register that it hands on to the next round: `next` in sealing, `before` in opening
unfoldable pub onward : Bool → RoundKey → ℕ
onward true k = k.next
onward false k = k.before

-- the schedule of a key: which of the three it is, its mixed key, and whether the key has ek bytes
unfoldable pub Scheduled : ℕ → List ℕ → Schedule → Type 0
Scheduled cipher key (Ks64 m flip) = (cipher ≡ 64) × (length key ≤ 16) × (word_bytes 8 m.words ≡ mkey 16 key) × (flip ≡ eqb (length key) 16)
Scheduled cipher key (Ks64h m flip) = (cipher ≡ 64) × (16 < length key) × (word_bytes 8 m.words ≡ mkey 32 key) × (flip ≡ eqb (length key) 32)
Scheduled cipher key (Ks128 m flip) = (cipher ≡ 64 → ⊥) × (word_bytes 8 m.words ≡ mkey 32 key) × (flip ≡ eqb (length key) 32)

-- round key number i of a schedule for r rounds, counted from 0: the register has gone i times its steps
unfoldable pub round_key_of : Schedule → ℕ → ℕ → ℕ
round_key_of s r i = round_key_at s (LFSR (i * steps s) r)

-- all r of them
abbrev pub round_keys_of : Schedule → ℕ → List ℕ
round_keys_of s r = numbered (round_key_of s r) r 0

-- where round key number i stands, counted from 1, with step blocks of g steps and r rounds: the register's value that it is made at. Number 0 is one step
-- block before the first round key, which stands at the seed, and number r + 1 is one beyond the last
unfoldable pub stands : ℕ → ℕ → ℕ → ℕ
stands g r zero = stepped false g (seed r)
stands g r (suc i) = LFSR (i * g) r

-- the number, counted from 1, of the round key that round number i of r takes, counted from 0; past the last round it is r + 1 in sealing and 0 in opening
unfoldable pub number : Bool → ℕ → ℕ → ℕ
number true r i = suc i
number false r i = r - i

-- reg is the register's value for round number i of r, counted from 0, in sealing or in opening, with step blocks of g steps
pub record RegisterAt (g : ℕ) (sealing : Bool) (r i reg : ℕ) : Type 0 where
  pub here : reg ≡ stands g r (number sealing r i)
  pub small : reg < 2 ^ 24
