-- A tag by states: XOR of states is XOR of their blocks, and a state sealed is the state of the sealed block. So a chain of states is the chain of blocks.
-- Assumes nothing.
use mathlib.Core.Path.{◌≡◌, refl, sym, ap, ap₂, ◌∙◌, subst}
use mathlib.Core.Bool.{Bool, true, false, cond}
use mathlib.Core.List.{List, [], ◌∷◌, ◌++◌}
use Prim.Native.Nat.{ℕ, zero, suc, ◌+◌, ◌≤◌, ◌<◌}
use native.Mathlib.Nat.{zero-lt-suc}
use native.Mathlib.Omega.{arith}
use lib.Dec.{eqb}
use lib.ListN.{length, take, drop, get_or, replicate, length-drop, length-replicate}
use lib.Seq.{length-take-le}
use Rattle.fox_layers.specs.Words.{◌⊕◌, joined, split, Bytes, xor_each}
use Rattle.fox_layers.specs.Lists.{numbered}
use Rattle.fox_layers.proofs.Laws.Words.{split-bytes, length-xor_each, joined-xor_each, take-bytes, drop-bytes, append-bytes, xor_each-bytes}
use Rattle.fox_rounds.specs.Skeleton.{turned}
use Rattle.fox_rounds.specs.declared.fox64.Fox64.{Fox64}
use Rattle.fox_rounds.specs.declared.fox128.Fox128.{Fox128}
use Rattle.fox_rounds.specs.declared.state.State.{State}
use Rattle.fox_rounds.specs.declared.state.State.TheVariants.{Of64, Of128}
use Rattle.fox_rounds.proofs.Laws.Undoing.{turned-fits}
use Rattle.fox_refusals.specs.Refusals.{block_size}
use Rattle.fox_block.specs.Block.{state64, state128, bytes64, bytes128, state, bytes, turn_with, seal_with, BlockOf}
use Rattle.fox_block.proofs.Laws.Block.{length-turned}
use Rattle.fox_block.proofs.Laws.States.{state-bytes, state-fits}
use Rattle.fox_tag.specs.Cmac.{chained}
use Rattle.fox_rounds.specs.Xor.{xor64, xor128, xor_states}

-- the part of a XOR from a place on
take-xor_each : (n : ℕ) (xs ys : List ℕ) → take n (xor_each xs ys) ≡ xor_each (take n xs) (take n ys)
unfolding xor_each
take-xor_each zero xs ys = refl
take-xor_each (suc n) [] ys = refl
take-xor_each (suc n) (x ∷ xs) [] = refl
take-xor_each (suc n) (x ∷ xs) (y ∷ ys) = ap (λ (l : List ℕ). (x ⊕ y) ∷ l) (take-xor_each n xs ys)

drop-xor_each : (n : ℕ) (xs ys : List ℕ) → length xs ≡ length ys → drop n (xor_each xs ys) ≡ xor_each (drop n xs) (drop n ys)
unfolding xor_each
drop-xor_each zero xs ys e = refl
drop-xor_each (suc n) [] [] e = refl
drop-xor_each (suc n) [] (y ∷ ys) e = absurd (omega arith)
drop-xor_each (suc n) (x ∷ xs) [] e = absurd (omega arith)
drop-xor_each (suc n) (x ∷ xs) (y ∷ ys) e = drop-xor_each n xs ys (omega arith)

-- a word of four bytes, from place `at` on
module _ (xs ys : List ℕ) (hx : Bytes xs) (hy : Bytes ys) (e : length xs ≡ length ys) where
  word-xored : (at : ℕ) → at + 4 ≤ length xs → joined (take 4 (drop at (xor_each xs ys))) ≡ joined (take 4 (drop at xs)) ⊕ joined (take 4 (drop at ys))
  word-xored at room =
      let long : (l : List ℕ) → at + 4 ≤ length l → length (take 4 (drop at l)) ≡ 4 =
      λ l h. length-take-le 4 (drop at l) (rw (length-drop at l) (omega arith)) in
      ap (λ (l : List ℕ). joined (take 4 l)) (drop-xor_each at xs ys e)
      ∙ ap joined (take-xor_each 4 (drop at xs) (drop at ys))
      ∙ joined-xor_each (take 4 (drop at xs)) (take 4 (drop at ys)) (take-bytes 4 (drop at xs) (drop-bytes at xs hx))
      (take-bytes 4 (drop at ys) (drop-bytes at ys hy)) (long xs room ∙ sym (long ys (omega arith)))

  xored-64 : length xs ≡ 8 → xor64 (state64 xs) (state64 ys) ≡ state64 (xor_each xs ys)
  unfolding xor64 state64
  xored-64 n = λ i. record { l = sym (word-xored 0 (omega arith)) i; r = sym (word-xored 4 (omega arith)) i }

  xored-128 : length xs ≡ 16 → xor128 (state128 xs) (state128 ys) ≡ state128 (xor_each xs ys)
  unfolding xor128 state128
  xored-128 n =
      λ i.
      record {
        ll = sym (word-xored 0 (omega arith)) i;
        lr = sym (word-xored 4 (omega arith)) i;
        rl = sym (word-xored 8 (omega arith)) i;
        rr = sym (word-xored 12 (omega arith)) i;
      }

-- two blocks of one cipher
module _ (c : ℕ) (xs ys : List ℕ) (bx : BlockOf c xs) (by : BlockOf c ys) where
  xored-state : xor_states (state c xs) (state c ys) ≡ state c (xor_each xs ys)
  unfolding state block_size xor_states
  xored-state = there (eqb c 64) bx.size
    where
      there : (t : Bool) → length xs ≡ cond t 8 16 → xor_states (cond t (Of64 (state64 xs)) (Of128 (state128 xs)))
          (cond t (Of64 (state64 ys)) (Of128 (state128 ys)))
          ≡ cond t (Of64 (state64 (xor_each xs ys))) (Of128 (state128 (xor_each xs ys)))
      there true n = ap Of64 (xored-64 xs ys bx.bytes by.bytes (bx.size ∙ sym by.size) n)
      there false n = ap Of128 (xored-128 xs ys bx.bytes by.bytes (bx.size ∙ sym by.size) n)

  xored-block : BlockOf c (xor_each xs ys)
  xored-block =
      record { size = length-xor_each xs ys (bx.size ∙ sym by.size) ∙ bx.size; bytes = xor_each-bytes xs ys bx.bytes by.bytes }

bytes-bytes : (x : State) → Bytes (bytes x)
unfolding bytes bytes64 bytes128 split
bytes-bytes (Of64 x) = append-bytes (split 4 x.l) (split 4 x.r) (split-bytes 4 x.l) (split-bytes 4 x.r)
bytes-bytes (Of128 x) =
    let last = split 4 x.rr in
    let third = split 4 x.rl ++ last in
    append-bytes (split 4 x.ll) (split 4 x.lr ++ third) (split-bytes 4 x.ll)
    (append-bytes (split 4 x.lr) third (split-bytes 4 x.lr) (append-bytes (split 4 x.rl) last (split-bytes 4 x.rl) (split-bytes 4 x.rr)))

-- a sealed block is a block
pub sealed-block : (c : ℕ) (rks block : List ℕ) → BlockOf c (seal_with c rks block)
unfolding turn_with
sealed-block c rks block = record { size = length-turned true c rks block; bytes = bytes-bytes (turned true rks (state c block)) }

pub zeros-bytes : (n : ℕ) → Bytes (replicate n 0)
zeros-bytes zero i = zero-lt-suc 255
zeros-bytes (suc n) zero = zero-lt-suc 255
zeros-bytes (suc n) (suc i) = zeros-bytes n i

pub zero-block : (c : ℕ) → BlockOf c (replicate (block_size c) 0)
zero-block c = record { size = length-replicate (block_size c) 0; bytes = zeros-bytes (block_size c) }

pub chained-block : (c : ℕ) (rks start : List ℕ) (ms : List (List ℕ)) → BlockOf c start → BlockOf c (chained (seal_with c rks) start ms)
unfolding chained
chained-block c rks start [] b = b
chained-block c rks start (m ∷ ms) b = chained-block c rks (seal_with c rks (xor_each start m)) ms (sealed-block c rks (xor_each start m))

-- a state sealed is the state of the sealed block
pub sealed-state : (c : ℕ) (rks block : List ℕ) → BlockOf c block → turned true rks (state c block) ≡ state c (seal_with c rks block)
unfolding turn_with
sealed-state c rks block b = sym (state-bytes c _ (turned-fits true (eqb c 64) rks (state c block) (state-fits c block b)))

-- one block chained
pub absorbed : (c : ℕ) (rks block m : List ℕ) {x y z : State} → BlockOf c block → BlockOf c m → x ≡ state c block → y ≡ state c m
    → z ≡ turned true rks (xor_states x y) → z ≡ state c (seal_with c rks (xor_each block m))
absorbed c rks block m b bm ex ey ez =
    ez
    ∙ ap (turned true rks) (ap₂ xor_states ex ey ∙ xored-state c block m b bm)
    ∙ sealed-state c rks (xor_each block m) (xored-block c block m b bm)
