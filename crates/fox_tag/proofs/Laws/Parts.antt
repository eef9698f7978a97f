-- The parts of a message that a tag goes over: every block before the last is whole and lies within the message, and the last has at most B bytes.
-- Assumes nothing.
use mathlib.Core.Path.{◌≡◌, refl, sym, ap, ap₂, ◌∙◌}
use mathlib.Core.Bool.{Bool, true, false, cond}
use mathlib.Core.List.{List}
use Prim.Native.Nat.{ℕ, suc, ◌+◌, ◌-◌, ◌*◌, ◌/◌, ◌^◌, ◌≤◌, ◌<◌}
use native.Mathlib.Nat.{div-add-mod', mod-lt, mul-le-mul_right, le_trans, div-le_self}
use native.Mathlib.Numerals.{add-one}
use native.Mathlib.Omega.{arith}
use lib.Dec.{eqb, lit≤}
use lib.ListN.{length, take, drop, length-drop}
use lib.Seq.{length-take-le, take_all}
use Rattle.fox_refusals.specs.Refusals.{block_size}
use Rattle.fox_tag.specs.Cmac.{blocks_before, block_at, last_at}

-- the block size: at least one byte, at most 16

pub size-some : (c : ℕ) → 1 ≤ block_size c
unfolding block_size
size-some c = both (eqb c 64)
  where
    both : (t : Bool) → 1 ≤ cond t 8 16
    both true = lit≤ tt
    both false = lit≤ tt

pub size-most : (c : ℕ) → block_size c ≤ 16
unfolding block_size
size-most c = both (eqb c 64)
  where
    both : (t : Bool) → cond t 8 16 ≤ 16
    both true = lit≤ tt
    both false = lit≤ tt

-- block number i, where it lies within the message

pub length-block_at : (B : ℕ) (message : List ℕ) (i : ℕ) → (i + 1) * B ≤ length message → length (block_at B message i) ≡ B
unfolding block_at
length-block_at B message i h = length-take-le B (drop (i * B) message) (rw (length-drop (i * B) message) (omega arith))

-- as code takes it
pub block-taken : (B : ℕ) (message : List ℕ) (i : ℕ) → take (i * B + B - i * B) (drop (i * B) message) ≡ block_at B message i
unfolding block_at
block-taken B message i =
    let many : i * B + B - i * B ≡ B = omega arith in
    ap (λ (k : ℕ). take k (drop (i * B) message)) many

-- one of n that do
pub block_room : (B n i : ℕ) {long : ℕ} → i < n → n * B ≤ long → (i + 1) * B ≤ long
block_room B n i here within = rw (add-one i) (le_trans (mul-le-mul_right B here) within)

-- the blocks before the last

pub before-within : (B : ℕ) (message : List ℕ) → blocks_before B message * B ≤ length message
unfolding blocks_before
before-within B message = omega (arith, div-add-mod' (length message - 1) B)

-- one more than these fits where the message's length does
pub one_more : (B : ℕ) (message : List ℕ) → length message < 2 ^ 64 → blocks_before B message + 1 < 2 ^ 64
unfolding blocks_before
one_more B message fits = omega (arith, div-le_self (length message - 1) B)

-- the last block is what is left after the others, at most B bytes
module _ (B : ℕ) (message : List ℕ) (some : 1 ≤ B) where
  left-few : length (drop (blocks_before B message * B) message) ≤ B
  unfolding blocks_before
  left-few = rw (length-drop (blocks_before B message * B) message) (omega (arith, div-add-mod' (length message - 1) B, mod-lt (length message - 1) some))

  pub last-is : last_at B message ≡ drop (blocks_before B message * B) message
  unfolding block_at
  last-is = take_all B (drop (blocks_before B message * B) message) left-few

  -- as code takes it
  pub last_taken : take (length message - blocks_before B message * B) (drop (blocks_before B message * B) message) ≡ last_at B message
  last_taken =
      take_all (length message - blocks_before B message * B) (drop (blocks_before B message * B) message) (omega (arith, length-drop (blocks_before B message * B) message))
      ∙ sym last-is

  pub last-few : length (last_at B message) ≤ B
  last-few = rw last-is left-few
