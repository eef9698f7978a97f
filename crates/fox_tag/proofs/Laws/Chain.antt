-- A tag computed block by block: the chain over the blocks before the last, one block after the other, and then the last block with its subkey.
-- Assumes nothing.
use mathlib.Core.Path.{◌≡◌, refl, sym, ap, ap₂, ◌∙◌}
use mathlib.Core.List.{List, [], ◌∷◌, ◌++◌}
use Prim.Native.Nat.{ℕ, ◌+◌}
use native.Mathlib.Nat.{zero-add}
use native.Mathlib.Numerals.{add-one}
use lib.ListN.{length, replicate}
use Rattle.fox_layers.specs.Words.{xor_each}
use Rattle.fox_layers.specs.Lists.{numbered}
use Rattle.fox_layers.proofs.Laws.Lists.{numbered-snoc}
use Rattle.fox_tag.specs.Cmac.{blocks_before, block_at, last_at, whole, blocks, keyed_last, chained, cmac, keyed_block}

chained-snoc : (E : List ℕ → List ℕ) (c : List ℕ) (ms : List (List ℕ)) (m : List ℕ) → chained E c (ms ++ (m ∷ [])) ≡ E (xor_each (chained E c ms) m)
unfolding chained
chained-snoc E c [] m = refl
chained-snoc E c (l ∷ ms) m = chained-snoc E (E (xor_each c l)) ms m

keyed_last-snoc : (k : List ℕ) (ms : List (List ℕ)) (m : List ℕ) → keyed_last k (ms ++ (m ∷ [])) ≡ ms ++ (xor_each k m ∷ [])
unfolding keyed_last
keyed_last-snoc k [] m = refl
keyed_last-snoc k (l ∷ []) m = refl
keyed_last-snoc k (l ∷ n ∷ ms) m = ap (λ (xs : List (List ℕ)). l ∷ xs) (keyed_last-snoc k (n ∷ ms) m)

-- blocks of any kind, numbered from 0
module _ (B : ℕ) (E : List ℕ → List ℕ) (f : ℕ → List ℕ) where
  -- the chain over the first i blocks
  abbrev pub ChainedTo : ℕ → List ℕ → Type 0
  ChainedTo i c = c ≡ chained E (replicate B 0) (numbered f i 0)

  pub chained_to-first : ChainedTo 0 (replicate B 0)
  unfolding chained numbered
  chained_to-first = refl

  pub chained_to-on : (i : ℕ) {c d : List ℕ} → ChainedTo i c → d ≡ E (xor_each c (f i)) → ChainedTo (i + 1) d
  chained_to-on i {c} {d} done e =
      e
      ∙ ap₂ (λ (x m : List ℕ). E (xor_each x m)) done (ap f (sym (zero-add i)))
      ∙ sym (chained-snoc E (replicate B 0) (numbered f i 0) (f (0 + i)))
      ∙ ap (chained E (replicate B 0)) (sym (numbered-snoc f i 0))
      ∙ ap (λ (n : ℕ). chained E (replicate B 0) (numbered f n 0)) (sym (add-one i))

-- the blocks of a message
module _ (B : ℕ) (E : List ℕ → List ℕ) (message : List ℕ) where
  -- the chain over all blocks before the last, then the last block with its subkey: the tag
  pub chained_to-tag : {c last tag : List ℕ} → ChainedTo B E (block_at B message) (blocks_before B message) c → last ≡ keyed_block B (E (replicate B 0)) (last_at B message)
      → tag ≡ E (xor_each c last) → tag ≡ cmac B E message
  unfolding cmac blocks whole keyed_block
  chained_to-tag {c} {last} {tag} done key e =
      let first = numbered (block_at B message) (blocks_before B message) 0 in
      e
      ∙ ap₂ (λ (x m : List ℕ). E (xor_each x m)) done key
      ∙ sym (chained-snoc E (replicate B 0) first _)
      ∙ ap (chained E (replicate B 0)) (sym (keyed_last-snoc _ first _))

-- a tag is as long as the block function's blocks
module _ (B : ℕ) (E : List ℕ → List ℕ) (message : List ℕ) (size : (block : List ℕ) → length (E block) ≡ B) where
  pub length-cmac : length (cmac B E message) ≡ B
  unfolding cmac blocks
  length-cmac =
      let first = numbered (block_at B message) (blocks_before B message) 0 in
      ap (λ (ms : List (List ℕ)). length (chained E (replicate B 0) ms)) (keyed_last-snoc _ first _)
      ∙ ap length (chained-snoc E (replicate B 0) first _)
      ∙ size _
