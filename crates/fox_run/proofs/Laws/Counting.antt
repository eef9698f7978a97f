-- Counter blocks as states: a counter block is counted on in two parts, the lower one by i, and the upper one by what is carried out of the lower. So the
-- states that code counts on word by word are those of the counter blocks.
-- Assumes nothing.
use mathlib.Core.Path.{◌≡◌, sym, ap, ◌∙◌}
use mathlib.Core.Bool.{Bool, true, false, cond}
use mathlib.Core.List.{List, [], ◌++◌, append-nil}
use Prim.Native.Nat.{ℕ, zero, suc, ◌+◌, ◌*◌, ◌/◌, ◌%◌, ◌^◌, ◌≤◌, ◌<◌}
use native.Mathlib.Nat.{zero-add, div-one, div-add-mod', mul-add-div_right}
use native.Mathlib.Omega.{arith}
use lib.Dec.{eqb}
use lib.Bits.{bit_and, and_zero_l, and_comm, and_mask}
use lib.Pow.{pow_pos, shr-shr}
use lib.ListN.{length, take, drop, length-append, length-drop, take-append-drop}
use lib.Seq.{length-take-le, take_at, drop_at, drop-drop}
use Rattle.fox_layers.specs.Words.{joined, split}
use Rattle.fox_layers.proofs.Laws.Words.{split-above, split_parts, joined-append}
use Rattle.fox_rounds.specs.declared.state.State.TheVariants.{Of64, Of128}
use Rattle.fox_refusals.specs.Refusals.{block_size}
use Rattle.fox_block.specs.Block.{state64, state128, state}
use Rattle.fox_run.specs.Counter.{counter_block}
use Rattle.fox_run.specs.States.{carry, counted64, counted128, counted}
use Rattle.fox_run.proofs.Counters.{length-counter, counting}

-- what is carried out of bytes when i is added to their number
abbrev carry_out : List ℕ → ℕ → ℕ
carry_out bs i = (joined bs + i) / 2 ^ (8 * length bs)

-- only the lowest bytes of the sum are looked at
unreduced : (bs : List ℕ) (i : ℕ) → counter_block bs i ≡ split (length bs) (joined bs + i)
unfolding counter_block
unreduced bs i =
    let n = length bs in
    let w = joined bs + i in
    sym (split-above n (w / 2 ^ (8 * n)) (w % 2 ^ (8 * n))) ∙ ap (split n) (div-add-mod' w (2 ^ (8 * n)))

-- a counter block in two parts
module _ (xs ys : List ℕ) (i : ℕ) where
  sum : joined (xs ++ ys) + i ≡ joined xs * 2 ^ (8 * length ys) + (joined ys + i)
  sum = rw (joined-append xs ys) (omega arith)

  high : (joined (xs ++ ys) + i) / 2 ^ (8 * length ys) ≡ joined xs + carry_out ys i
  high = rw sum (mul-add-div_right (pow_pos (8 * length ys)) (joined xs) (joined ys + i))

  counter-parts : counter_block (xs ++ ys) i ≡ counter_block xs (carry_out ys i) ++ counter_block ys i
  counter-parts =
      let low : split (length ys) (joined (xs ++ ys) + i) ≡ split (length ys) (joined ys + i) =
      ap (split (length ys)) sum ∙ split-above (length ys) (joined xs) (joined ys + i) in
      rw (unreduced (xs ++ ys) i, unreduced xs (carry_out ys i), unreduced ys i, length-append xs ys, split_parts (length xs) (length ys) _, high, low)

  carry-parts : carry_out (xs ++ ys) i ≡ carry_out xs (carry_out ys i)
  carry-parts =
      let place : 8 * length (xs ++ ys) ≡ 8 * length ys + 8 * length xs = rw (length-append xs ys) (omega arith) in
      rw (place, ← (shr-shr (joined (xs ++ ys) + i) (8 * length ys) (8 * length xs)), high)

-- a word of a counter block, with c carried into it
module _ (counter : List ℕ) (i at c : ℕ) (h : at + 4 ≤ length counter) (e : carry_out (drop (at + 4) counter) i ≡ c) where
  abbrev word : List ℕ
  word = take 4 (drop at counter)

  four : length word ≡ 4
  four = length-take-le 4 (drop at counter) (rw (length-drop at counter) (omega arith))

  parts : drop at counter ≡ word ++ drop (at + 4) counter
  parts = sym (take-append-drop 4 (drop at counter)) ∙ ap (λ (bs : List ℕ). word ++ bs) (drop-drop 4 at counter)

  dropped : drop at (counter_block counter i) ≡ counter_block (drop at counter) i
  dropped =
      let front = take at counter in
      let size = length-counter front (carry_out (drop at counter) i) ∙ length-take-le at counter (omega arith) in
      ap (λ (bs : List ℕ). drop at (counter_block bs i)) (sym (take-append-drop at counter))
      ∙ ap (drop at) (counter-parts front (drop at counter) i) ∙ drop_at (counter_block front _) (counter_block (drop at counter) i) at size

  word-counted : joined (take 4 (drop at (counter_block counter i))) ≡ (joined word + c) % 2 ^ 32
  word-counted =
      ap (λ (bs : List ℕ). joined (take 4 bs)) (dropped ∙ ap (λ (bs : List ℕ). counter_block bs i) parts ∙ counter-parts word (drop (at + 4) counter) i)
      ∙ ap joined (take_at (counter_block word _) (counter_block (drop (at + 4) counter) i) 4 (length-counter word _ ∙ four))
      ∙ counting word _
      ∙ rw (four, e)

  carry-on : carry_out (drop at counter) i ≡ carry (joined word) c
  carry-on = ap (λ (bs : List ℕ). carry_out bs i) parts ∙ carry-parts word (drop (at + 4) counter) i ∙ rw (four, e)

carry-first : (counter : List ℕ) (i n : ℕ) → length counter ≡ n → carry_out (drop n counter) i ≡ i
unfolding joined
carry-first counter i n e =
    ap (λ (bs : List ℕ). carry_out (drop n bs) i) (sym (append-nil counter)) ∙ ap (λ (bs : List ℕ). carry_out bs i) (drop_at counter [] n e)
    ∙ div-one (0 + i) ∙ zero-add i

counted-64 : (counter : List ℕ) (i : ℕ) → length counter ≡ 8 → state64 (counter_block counter i) ≡ counted64 (state64 counter) i
unfolding state64 counted64
counted-64 counter i e =
    let none = carry-first counter i 8 e in
    let a = carry-on counter i 4 i (omega arith) none in
    λ j. record { l = word-counted counter i 0 _ (omega arith) a j; r = word-counted counter i 4 i (omega arith) none j }

counted-128 : (counter : List ℕ) (i : ℕ) → length counter ≡ 16 → state128 (counter_block counter i) ≡ counted128 (state128 counter) i
unfolding state128 counted128
counted-128 counter i e =
    let none = carry-first counter i 16 e in
    let a = carry-on counter i 12 i (omega arith) none in
    let b = carry-on counter i 8 _ (omega arith) a in
    let c = carry-on counter i 4 _ (omega arith) b in
    λ j.
    record {
      ll = word-counted counter i 0 _ (omega arith) c j;
      lr = word-counted counter i 4 _ (omega arith) b j;
      rl = word-counted counter i 8 _ (omega arith) a j;
      rr = word-counted counter i 12 i (omega arith) none j;
    }

pub counted-state : (c : ℕ) (counter : List ℕ) (i : ℕ) → length counter ≡ block_size c → state c (counter_block counter i) ≡ counted (state c counter) i
unfolding state block_size counted
counted-state c counter i e = there (eqb c 64) e
  where
    there : (t : Bool) → length counter ≡ cond t 8 16
        → cond t (Of64 (state64 (counter_block counter i))) (Of128 (state128 (counter_block counter i)))
        ≡ counted (cond t (Of64 (state64 counter)) (Of128 (state128 counter))) i
    there true n = ap Of64 (counted-64 counter i n)
    there false n = ap Of128 (counted-128 counter i n)

-- what is carried into a word is at most 1, and goes on through it where its bits are all ones
pub carry-le : (w n : ℕ) → w < 2 ^ 32 → n < 2 ^ 32 → carry w n ≤ 1
carry-le w n lw ln = omega arith

pub carry-passed : (w n : ℕ) → w < 2 ^ 32 → n ≤ 1 → bit_and n (carry w 1) ≡ carry w n
carry-passed w zero lw ln = and_zero_l (carry w 1) ∙ omega arith
carry-passed w (suc zero) lw ln = and_comm 1 (carry w 1) ∙ and_mask (carry w 1) 1 ∙ omega arith
carry-passed w (suc (suc n)) lw ln = absurd (omega arith)
