-- The tag of a message as every engine computes it, by states: the chain over the blocks before the last, and the last block with its subkey.
-- Assumes nothing.
use mathlib.Core.Path.{◌≡◌, refl, sym, ap, ap₂, ◌∙◌, subst}
use mathlib.Core.Bool.{Bool, true, false, cond}
use mathlib.Core.List.{List, [], ◌∷◌, ◌++◌}
use Prim.Native.Nat.{ℕ, zero, suc, ◌+◌, ◌-◌, ◌*◌, ◌≤◌, ◌<◌}
use native.Mathlib.Omega.{arith}
use lib.Dec.{eqb, ltb, lit≤}
use lib.ListN.{length, take, drop, replicate, length-append, length-replicate}
use borrow.Author.Tests.{eqb-true, eqb-false, ltb-true, lt-ltb, le-ltb}
use Rattle.fox_layers.specs.Words.{Bytes, xor_each}
use Rattle.fox_layers.specs.Lists.{numbered}
use Rattle.fox_layers.proofs.Laws.Lists.{by-test, numbered-same}
use Rattle.fox_layers.proofs.Laws.Words.{split-bytes, length-xor_each, xor_each-bytes, append-bytes, take-bytes, drop-bytes}
use Rattle.fox_rounds.specs.Skeleton.{turned}
use Rattle.fox_rounds.specs.declared.state.State.{State}
use Rattle.fox_refusals.specs.Refusals.{block_size}
use Rattle.fox_block.specs.Block.{state, seal_with, BlockOf}
use Rattle.fox_tag.specs.Cmac.{doubled, subkey_of, blocks_before, block_at, last_at, filled, chained, keyed_block}
use Rattle.fox_tag.specs.Tag.{tag_with, chain_of}
use Rattle.fox_rounds.specs.Xor.{xor_states}
use Rattle.fox_tag.proofs.Laws.Chain.{chained_to-first, chained_to-on, chained_to-tag}
use Rattle.fox_tag.proofs.Laws.Doubling.{length-doubled}
use Rattle.fox_tag.proofs.Laws.Parts.{length-block_at, block_room}
use Rattle.fox_tag.proofs.Laws.States.{zero-block, zeros-bytes, chained-block, absorbed}

pub block_of : (c : ℕ) (message : List ℕ) (i : ℕ) → Bytes message → (i + 1) * block_size c ≤ length message → BlockOf c (block_at (block_size c) message i)
unfolding block_at
block_of c message i h room =
    let B = block_size c in
    record { size = length-block_at B message i room; bytes = take-bytes B (drop (i * B) message) (drop-bytes (i * B) message h) }

room : (l B : ℕ) → (l ≡ B → ⊥) → l ≤ B → l + suc (B - 1 - l) ≡ B
room l B isnt few = omega arith

padding-bytes : (n : ℕ) → Bytes (0x80 ∷ replicate n 0)
padding-bytes n zero = lit≤ tt
padding-bytes n (suc i) = zeros-bytes n i

-- a subkey is a block, and so is the last block with it
subkey-size : (B : ℕ) (zeros : List ℕ) (t : Bool) → length (subkey_of B zeros t) ≡ B
unfolding subkey_of
subkey-size B zeros true = length-doubled B zeros
subkey-size B zeros false = length-doubled B (doubled B zeros)

subkey-bytes : (B : ℕ) (zeros : List ℕ) (t : Bool) → Bytes (subkey_of B zeros t)
unfolding subkey_of doubled
subkey-bytes B zeros true = split-bytes B _
subkey-bytes B zeros false = split-bytes B _

keyed-block : (c : ℕ) (zeros part : List ℕ) → Bytes part → length part ≤ block_size c → BlockOf c (keyed_block (block_size c) zeros part)
unfolding keyed_block filled
keyed-block c zeros part h few =
    let B = block_size c in
    let key : Bool → List ℕ = subkey_of B zeros in
    by-test (eqb (length part) B)
    (λ t.
    let whole = eqb-true (length part) B t in
    rw t (record {
      size = length-xor_each (key true) part (subkey-size B zeros true ∙ sym whole) ∙ subkey-size B zeros true;
      bytes = xor_each-bytes (key true) part (subkey-bytes B zeros true) h;
    }))
    (λ t.
    let fill = part ++ (0x80 ∷ replicate (B - 1 - length part) 0) in
    let size : length fill ≡ B = length-append part _ ∙ ap (λ (n : ℕ). length part + suc n) (length-replicate (B - 1 - length part) 0)
    ∙ room (length part) B (eqb-false (length part) B t) few in
    rw t (record {
      size = length-xor_each (key false) fill (subkey-size B zeros false ∙ sym size) ∙ subkey-size B zeros false;
      bytes = xor_each-bytes (key false) fill (subkey-bytes B zeros false) (append-bytes part _ h (padding-bytes (B - 1 - length part)));
    }))

module _ (c : ℕ) (rks : List ℕ) (f : ℕ → List ℕ) where
  -- a state is that of the chain over the first i of some blocks
  abbrev pub ChainedState : ℕ → State → Type 0
  ChainedState i y = y ≡ state c (chained (seal_with c rks) (replicate (block_size c) 0) (numbered f i 0))

  pub chained_state-first : {y : State} → y ≡ state c (replicate (block_size c) 0) → ChainedState 0 y
  chained_state-first e = e ∙ ap (state c) (chained_to-first (block_size c) (seal_with c rks) f)

  pub chained_state-on : (i : ℕ) {x y z : State} → BlockOf c (f i) → ChainedState i y → x ≡ state c (f i) → z ≡ turned true rks (xor_states y x)
      → ChainedState (i + 1) z
  chained_state-on i b done ex ez =
      absorbed c rks _ (f i) (chained-block c rks _ _ (zero-block c)) b done ex ez
      ∙ ap (state c) (chained_to-on (block_size c) (seal_with c rks) f i refl refl)

-- the last block with its subkey, chained after all others: the tag
module _ (c : ℕ) (rks message : List ℕ) where
  pub last-chained : seal_with c rks (xor_each (chain_of c rks message (blocks_before (block_size c) message))
      (keyed_block (block_size c) (seal_with c rks (replicate (block_size c) 0)) (last_at (block_size c) message)))
      ≡ tag_with c rks message
  unfolding tag_with
  last-chained = chained_to-tag (block_size c) (seal_with c rks) message refl refl refl

  -- the same by states
  module _ (h : Bytes message) where
    pub tag-state : {part : List ℕ} {last y z : State} → y ≡ state c (chain_of c rks message (blocks_before (block_size c) message))
        → part ≡ last_at (block_size c) message → length part ≤ block_size c
        → last ≡ state c (keyed_block (block_size c) (seal_with c rks (replicate (block_size c) 0)) part) → z ≡ turned true rks (xor_states y last)
        → z ≡ state c (tag_with c rks message)
    unfolding block_at
    tag-state {part} done here few el e =
        let B = block_size c in
        let L = seal_with c rks (replicate B 0) in
        let bytes_of : Bytes part = subst Bytes (sym here) (take-bytes B (drop (blocks_before B message * B) message) (drop-bytes (blocks_before B message * B) message h)) in
        absorbed c rks _ (keyed_block B L part) (chained-block c rks _ _ (zero-block c)) (keyed-block c L part bytes_of few) done el e
        ∙ ap (λ (l : List ℕ). state c (seal_with c rks (xor_each (chain_of c rks message (blocks_before B message)) (keyed_block B L l)))) here
        ∙ ap (state c) last-chained

-- the blocks of a message, with another in place of its last, chained
module _ (c : ℕ) (rks message last : List ℕ) (n : ℕ) where
  abbrev pub with_last : ℕ → List ℕ
  with_last i = cond (ltb i n) (block_at (block_size c) message i) last

  pub all-chained : chained (seal_with c rks) (replicate (block_size c) 0) (numbered with_last (n + 1) 0) ≡ seal_with c rks (xor_each (chain_of c rks message n) last)
  all-chained =
      let B = block_size c in
      let same : numbered with_last n 0 ≡ numbered (block_at B message) n 0 =
      numbered-same with_last (block_at B message) n 0 (λ j h. ap (λ (t : Bool). cond t (block_at B message j) last) (lt-ltb j n (omega arith))) in
      sym (chained_to-on B (seal_with c rks) with_last n refl refl)
      ∙ ap₂ (λ (ms : List (List ℕ)) (l : List ℕ). seal_with c rks (xor_each (chained (seal_with c rks) (replicate B 0) ms) l)) same
      (ap (λ (t : Bool). cond t (block_at B message n) last) (le-ltb n n (omega arith)))

  pub with_last-block : (i : ℕ) → Bytes message → n * block_size c ≤ length message → BlockOf c last → BlockOf c (with_last i)
  with_last-block i h room b =
      by-test (ltb i n)
      (λ t. rw t (block_of c message i h (block_room (block_size c) n i (ltb-true i n t) room)))
      (λ t. rw t b)
