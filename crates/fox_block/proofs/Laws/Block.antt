-- A block by cases of the cipher: its size, its state, and what sealing or opening it gives.
-- Assumes nothing.
use mathlib.Core.Path.{◌≡◌, refl, sym, ap, ◌∙◌}
use mathlib.Core.List.{List}
use mathlib.Core.Bool.{Bool, true, false, cond}
use Prim.Native.Nat.{ℕ, ◌%◌}
use native.Mathlib.Omega.{arith}
use lib.Dec.{eqb}
use lib.ListN.{length, replicate}
use borrow.Author.Tests.{eq-eqb, ne_eqb, eqb-true, eqb-false}
use Rattle.fox_layers.specs.Words.{joined, split}
use Rattle.fox_rounds.specs.Skeleton.{size, round, between, in_order, turned}
use Rattle.fox_rounds.specs.declared.fox64.Fox64.{Fox64}
use Rattle.fox_rounds.specs.declared.fox128.Fox128.{Fox128}
use Rattle.fox_rounds.specs.declared.state.State.{State}
use Rattle.fox_rounds.specs.declared.state.State.TheVariants.{Of64, Of128}
use Rattle.fox_rounds.proofs.Laws.Skeleton.{through-keeps}
use Rattle.fox_refusals.specs.Refusals.{block_size, Keyed}
use Rattle.fox_block.specs.Block.{state64, state128, bytes64, bytes128, state, bytes, turn_with}

-- by cases: the cipher is 64, or it is not
case : (c : ℕ) {A : Type 0} (t : Bool) → eqb c 64 ≡ t → (c ≡ 64 → A) → ((c ≡ 64 → ⊥) → A) → A
case c true d is isnt = is (eqb-true c 64 d)
case c false d is isnt = isnt (eqb-false c 64 d)

pub by-cipher : (c : ℕ) {A : Type 0} → (c ≡ 64 → A) → ((c ≡ 64 → ⊥) → A) → A
by-cipher c is isnt = case c (eqb c 64) refl is isnt

pub size_64 : (c : ℕ) → c ≡ 64 → block_size c ≡ 8
unfolding block_size
size_64 c e = simp (eq-eqb c 64 e)

pub size-128 : (c : ℕ) → (c ≡ 64 → ⊥) → block_size c ≡ 16
unfolding block_size
size-128 c n = simp (ne_eqb c 64 n)

-- the rounds of a call that meets no refusal fit a byte
pub rounds-whole : {c r k : ℕ} → Keyed c r k → r % 256 ≡ r
rounds-whole s = omega arith

pub state-64 : (c : ℕ) (bs : List ℕ) → c ≡ 64 → state c bs ≡ Of64 (state64 bs)
unfolding state
state-64 c bs e = simp (eq-eqb c 64 e)

pub state-128 : (c : ℕ) (bs : List ℕ) → (c ≡ 64 → ⊥) → state c bs ≡ Of128 (state128 bs)
unfolding state
state-128 c bs n = simp (ne_eqb c 64 n)

-- a state has the cipher's size, and rounds do not change it

pub sized-64 : (x : Fox64) → size (Of64 x) ≡ block_size 64
unfolding size
sized-64 x = sym (size_64 64 refl)

pub sized-128 : (x : Fox128) → size (Of128 x) ≡ block_size 128
unfolding size block_size
sized-128 x = refl

pub state-size : (c : ℕ) (bs : List ℕ) → size (state c bs) ≡ block_size c
unfolding size state block_size
state-size c bs = both (eqb c 64)
  where
    both : (t : Bool) → size (cond t (Of64 (state64 bs)) (Of128 (state128 bs))) ≡ cond t 8 16
    both true = refl
    both false = refl

-- the state of a zero block has zero words

pub zero-64 : state 64 (replicate (block_size 64) 0) ≡ Of64 (record { l = 0; r = 0 })
unfolding state64 state joined block_size
zero-64 = refl

pub zero-128 : state 128 (replicate (block_size 128) 0) ≡ Of128 (record { ll = 0; lr = 0; rl = 0; rr = 0 })
unfolding state128 state joined block_size
zero-128 = refl

pub zero-other : (c : ℕ) → (c ≡ 64 → ⊥) → state 128 (replicate (block_size 128) 0) ≡ state c (replicate (block_size c) 0)
unfolding state block_size
zero-other c n = rw (ne_eqb c 64 n) refl

pub round-size : (k : ℕ) (x : State) → size (round k x) ≡ size x
unfolding size round
round-size k (Of64 x) = refl
round-size k (Of128 x) = refl

pub between-size : (d : Bool) (x : State) → size (between d x) ≡ size x
unfolding size between
between-size true (Of64 x) = refl
between-size true (Of128 x) = refl
between-size false (Of64 x) = refl
between-size false (Of128 x) = refl

pub turned-size : (d : Bool) (ks : List ℕ) (x : State) → size (turned d ks x) ≡ size x
unfolding turned
turned-size d ks x = through-keeps size round (between d) round-size (between-size d) (in_order d ks) x

pub length-bytes : (x : State) → length (bytes x) ≡ size x
unfolding size bytes bytes64 bytes128 split
length-bytes (Of64 x) = refl
length-bytes (Of128 x) = refl

pub length-turned : (d : Bool) (c : ℕ) (ks bs : List ℕ) → length (turn_with d c ks bs) ≡ block_size c
unfolding turn_with
length-turned d c ks bs = length-bytes (turned d ks (state c bs)) ∙ turned-size d ks (state c bs) ∙ state-size c bs

-- a state sealed or opened by either cipher's own rounds is the definition's block
module _ (d : Bool) (c : ℕ) (ks bs : List ℕ) where
  pub turned-64 : {y : Fox64} → c ≡ 64 → Of64 y ≡ turned d ks (Of64 (state64 bs)) → bytes64 y ≡ turn_with d c ks bs
  unfolding turn_with bytes
  turned-64 is e = ap bytes e ∙ ap (λ (x : State). bytes (turned d ks x)) (sym (state-64 c bs is))

  pub turned-128 : {y : Fox128} → (c ≡ 64 → ⊥) → Of128 y ≡ turned d ks (Of128 (state128 bs)) → bytes128 y ≡ turn_with d c ks bs
  unfolding turn_with bytes
  turned-128 isnt e = ap bytes e ∙ ap (λ (x : State). bytes (turned d ks x)) (sym (state-128 c bs isnt))
