-- A block's bytes and the words of a state determine each other: bytes to state to bytes, and state to bytes to state, change nothing. XOR of states is XOR of
-- their bytes.
-- Assumes nothing.
use mathlib.Core.Path.{◌≡◌, sym, ap, ap₂, ◌∙◌, subst}
use mathlib.Core.Bool.{Bool, true, false, cond}
use mathlib.Core.List.{List, ◌++◌}
use Prim.Native.Nat.{ℕ, ◌*◌, ◌^◌, ◌<◌, ◌≤◌}
use native.Mathlib.Omega.{arith}
use lib.Dec.{eqb}
use lib.ListN.{length, take, drop, length-drop}
use lib.Seq.{length-take-le}
use Rattle.fox_layers.specs.Words.{joined, split, Bytes, xor_each}
use Rattle.fox_layers.proofs.Laws.Words.{joined-lt, joined-split, split-xor, take-bytes, drop-bytes}
use Rattle.fox_rounds.specs.Skeleton.{size}
use Rattle.fox_rounds.specs.Xor.{xor64, xor128, xor_states}
use Rattle.fox_rounds.specs.declared.fox64.Fox64.{Fox64}
use Rattle.fox_rounds.specs.declared.fox128.Fox128.{Fox128}
use Rattle.fox_rounds.specs.declared.state.State.{State}
use Rattle.fox_rounds.specs.declared.state.State.TheVariants.{Of64, Of128}
use Rattle.fox_rounds.proofs.Laws.Rounds.{Words64, Words128}
use Rattle.fox_rounds.proofs.Laws.Undoing.{Fits}
use Rattle.fox_refusals.specs.Refusals.{block_size}
use Rattle.fox_bytes.proofs.Laws.WordsInBytes.{words-8, words-16}
use Rattle.fox_block.specs.Block.{state64, state128, bytes64, bytes128, state, bytes, BlockOf}

state64-bytes64 : (x : Fox64) → Words64 x → state64 (bytes64 x) ≡ x
unfolding state64 bytes64 split
state64-bytes64 x w = λ i. record { l = joined-split 4 x.l w.left_word i; r = joined-split 4 x.r w.right-word i }

state128-bytes128 : (x : Fox128) → Words128 x → state128 (bytes128 x) ≡ x
unfolding state128 bytes128 split
state128-bytes128 x w =
    λ i.
    record {
      ll = joined-split 4 x.ll w.first i;
      lr = joined-split 4 x.lr w.second i;
      rl = joined-split 4 x.rl w.third i;
      rr = joined-split 4 x.rr w.fourth i;
    }

bytes64-state64 : (bs : List ℕ) → Bytes bs → length bs ≡ 8 → bytes64 (state64 bs) ≡ bs
unfolding state64 bytes64
bytes64-state64 bs h n = sym (words-8 bs h n)

bytes128-state128 : (bs : List ℕ) → Bytes bs → length bs ≡ 16 → bytes128 (state128 bs) ≡ bs
unfolding state128 bytes128
bytes128-state128 bs h n = sym (words-16 bs h n)

-- a word of four bytes, from place `at` on
word_lt : (bs : List ℕ) (at : ℕ) → Bytes bs → 4 ≤ length (drop at bs) → joined (take 4 (drop at bs)) < 2 ^ 32
word_lt bs at h n =
    subst (λ (k : ℕ). joined (take 4 (drop at bs)) < 2 ^ (8 * k)) (length-take-le 4 (drop at bs) n)
    (joined-lt (take 4 (drop at bs)) (take-bytes 4 (drop at bs) (drop-bytes at bs h)))

state64-words : (bs : List ℕ) → Bytes bs → length bs ≡ 8 → Words64 (state64 bs)
unfolding state64
state64-words bs h n =
    record {
      left_word = word_lt bs 0 h (simp length-drop (omega arith));
      right-word = word_lt bs 4 h (simp length-drop (omega arith));
    }

state128-words : (bs : List ℕ) → Bytes bs → length bs ≡ 16 → Words128 (state128 bs)
unfolding state128
state128-words bs h n =
    record {
      first = word_lt bs 0 h (simp length-drop (omega arith));
      second = word_lt bs 4 h (simp length-drop (omega arith));
      third = word_lt bs 8 h (simp length-drop (omega arith));
      fourth = word_lt bs 12 h (simp length-drop (omega arith));
    }

-- for either cipher

pub state-bytes : (c : ℕ) (x : State) → Fits (eqb c 64) x → state c (bytes x) ≡ x
unfolding state Fits bytes
state-bytes c x f = there (eqb c 64) x f
  where
    there : (t : Bool) (y : State) → Fits t y → cond t (Of64 (state64 (bytes y))) (Of128 (state128 (bytes y))) ≡ y
    there true (Of64 y) w = ap Of64 (state64-bytes64 y w)
    there true (Of128 y) w = absurd w
    there false (Of64 y) w = absurd w
    there false (Of128 y) w = ap Of128 (state128-bytes128 y w)

module _ (c : ℕ) (block : List ℕ) (b : BlockOf c block) where
  pub bytes-state : bytes (state c block) ≡ block
  unfolding state block_size bytes
  bytes-state = there (eqb c 64) b.size
    where
      there : (t : Bool) → length block ≡ cond t 8 16 → bytes (cond t (Of64 (state64 block)) (Of128 (state128 block))) ≡ block
      there true n = bytes64-state64 block b.bytes n
      there false n = bytes128-state128 block b.bytes n

  pub state-fits : Fits (eqb c 64) (state c block)
  unfolding state block_size Fits
  state-fits = there (eqb c 64) b.size
    where
      there : (t : Bool) → length block ≡ cond t 8 16 → Fits t (cond t (Of64 (state64 block)) (Of128 (state128 block)))
      there true n = state64-words block b.bytes n
      there false n = state128-words block b.bytes n

-- the bytes of two blocks XORed as states are the XOR of their bytes

bytes64-xored : (x y : Fox64) → bytes64 (xor64 x y) ≡ xor_each (bytes64 x) (bytes64 y)
unfolding xor64 bytes64 split xor_each
bytes64-xored x y = ap₂ (λ (a b : List ℕ). a ++ b) (split-xor 4 x.l y.l) (split-xor 4 x.r y.r)

bytes128-xored : (x y : Fox128) → bytes128 (xor128 x y) ≡ xor_each (bytes128 x) (bytes128 y)
unfolding xor128 bytes128 split xor_each
bytes128-xored x y =
    ap₂ (λ (a b : List ℕ). a ++ b) (split-xor 4 x.ll y.ll)
    (ap₂ (λ (a b : List ℕ). a ++ b) (split-xor 4 x.lr y.lr) (ap₂ (λ (a b : List ℕ). a ++ b) (split-xor 4 x.rl y.rl) (split-xor 4 x.rr y.rr)))

pub bytes-xored : (c : ℕ) (x : State) (ds : List ℕ) → size x ≡ block_size c → BlockOf c ds → bytes (xor_states x (state c ds)) ≡ xor_each (bytes x) ds
unfolding state block_size bytes xor_states size
bytes-xored c x ds e b = there (eqb c 64) x e ∙ ap (xor_each (bytes x)) (bytes-state c ds b)
  where
    there : (t : Bool) (y : State) → size y ≡ cond t 8 16
        → bytes (xor_states y (cond t (Of64 (state64 ds)) (Of128 (state128 ds)))) ≡ xor_each (bytes y) (bytes (cond t (Of64 (state64 ds)) (Of128 (state128 ds))))
    there true (Of64 y) n = bytes64-xored y (state64 ds)
    there true (Of128 y) n = absurd (omega (arith, n))
    there false (Of64 y) n = absurd (omega (arith, n))
    there false (Of128 y) n = bytes128-xored y (state128 ds)
