-- Blocks in two words: their bytes, the block of a cipher's size that they hold, and the sealed counter block as code has it.
-- Assumes nothing.
use mathlib.Core.Path.{◌≡◌, refl, sym, ap, ap₂, ◌∙◌}
use mathlib.Core.Bool.{true}
use mathlib.Core.List.{List}
use Prim.Native.Nat.{ℕ, ◌+◌, ◌-◌, ◌/◌, ◌≤◌, ◌<◌}
use native.Mathlib.Omega.{arith}
use lib.Dec.{lit≤}
use lib.ListN.{length, take, drop, length-append}
use lib.Seq.{length-take-le, drop_at, take-add}
use Rattle.fox_layers.specs.Words.{split}
use Rattle.fox_layers.proofs.Laws.Words.{length-split}
use Rattle.fox_rounds.specs.Skeleton.{size, turned}
use Rattle.fox_rounds.specs.declared.state.State.{State}
use Rattle.fox_rounds.specs.declared.state.State.TheVariants.{Of64, Of128}
use Rattle.fox_refusals.specs.Refusals.{block_size}
use Rattle.fox_block.specs.Block.{state, bytes, turn_with, seal_with}
use Rattle.fox_block.proofs.Laws.Block.{by-cipher, size_64, size-128, state-size, turned-size}
use Rattle.fox_run.specs.Counter.{counter_block}
use Rattle.fox_run.specs.States.{counted}
use Rattle.fox_run.proofs.Laws.Counting.{counted-state}
use Rattle.fox_session.specs.declared.Pair.{Pair}
use Rattle.fox_session.specs.InUse.{bytes_in, held_block}
use Rattle.fox_server_key.proofs.Laws.Prepares.{size-le}

-- the block size

pub size-some : (c : ℕ) {B : ℕ} → B ≡ block_size c → 0 < B
size-some c e = by-cipher c (λ is. omega (arith, e, size_64 c is)) (λ isnt. omega (arith, e, size-128 c isnt))

-- the bytes of two words

pub length-bytes_in : (w : Pair) → length (bytes_in w) ≡ 16
unfolding bytes_in
length-bytes_in w = length-append (split 8 w.left) (split 8 w.right) ∙ omega (arith, length-split 8 w.left, length-split 8 w.right)

-- the block in two words

module _ (c : ℕ) (w : Pair) where
  pub length-held_block : length (held_block c w) ≡ block_size c
  unfolding held_block
  length-held_block = length-take-le (block_size c) (bytes_in w) (omega (arith, length-bytes_in w, size-le c refl))

  -- the first of the words' bytes
  pub front-block : {bs : List ℕ} {B : ℕ} → bs ≡ bytes_in w → B ≡ block_size c → take B bs ≡ held_block c w
  unfolding held_block
  front-block e n = ap₂ (λ (m : ℕ) (xs : List ℕ). take m xs) n e

  pub front_length : {bs : List ℕ} {B : ℕ} → bs ≡ bytes_in w → B ≡ block_size c → length (take B bs) ≡ block_size c
  front_length e n = ap length (front-block e n) ∙ length-held_block

  -- from its byte number k on
  pub rest-block : (k : ℕ) {bs : List ℕ} {B : ℕ} → bs ≡ bytes_in w → B ≡ block_size c → k ≤ B → take (B - k) (drop k bs) ≡ drop k (held_block c w)
  rest-block k {bs} {B} e n h =
      let whole : k + (B - k) ≡ B = omega arith in
      let long : length bs ≡ 16 = ap length e ∙ length-bytes_in w in
      sym (drop_at (take k bs) (take (B - k) (drop k bs)) k (length-take-le k bs (omega (arith, size-le c n))))
      ∙ ap (λ (xs : List ℕ). drop k xs) (sym (take-add k (B - k) bs) ∙ ap (λ (m : ℕ). take m bs) whole ∙ front-block e n)

-- a state's bytes fit in two words
pub state-small : (x : State) → size x ≤ 16
unfolding size
state-small (Of64 x) = lit≤ tt
state-small (Of128 x) = lit≤ tt

-- the sealed counter block that a position is in, as code has it: by states, and with its bytes in front of the words'
pub block-sealed : (c : ℕ) (rks : List ℕ) (p : ℕ) (first w : Pair) {fs : List ℕ} {B : ℕ} {x y z : State} → B ≡ block_size c → fs ≡ bytes_in first
    → x ≡ state c (take B fs) → y ≡ counted x (p / B) → z ≡ turned true rks y → take (size z) (bytes_in w) ≡ bytes z
    → held_block c w ≡ seal_with c rks (counter_block (held_block c first) (p / block_size c))
unfolding held_block turn_with
block-sealed c rks p first w {fs} {B} {x} {y} {z} n e ex ey ez made =
    let i = p / block_size c in
    let block : x ≡ state c (held_block c first) = ex ∙ ap (state c) (front-block c first e n) in
    let here : y ≡ state c (counter_block (held_block c first) i)
    = ey ∙ ap₂ (λ (u : State) (m : ℕ). counted u (p / m)) block n ∙ sym (counted-state c (held_block c first) i (length-held_block c first)) in
    let turns : z ≡ turned true rks (state c (counter_block (held_block c first) i)) = ez ∙ ap (turned true rks) here in
    let wide : size z ≡ block_size c = ap size turns ∙ turned-size true rks _ ∙ state-size c (counter_block (held_block c first) i) in
    ap (λ (m : ℕ). take m (bytes_in w)) (sym wide) ∙ made ∙ ap bytes turns
