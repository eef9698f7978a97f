-- Bytes XORed with a stream of blocks, block by block: XOR with a stretch of the stream is XOR with the list of its bytes. And the key stream is that of the
-- counter blocks as states: the state of counter block number i is the first one's, counted on by i.
-- Assumes nothing.
use mathlib.Core.Path.{◌≡◌, refl, sym, ap, ap₂, ◌∙◌}
use mathlib.Core.Bool.{true}
use mathlib.Core.List.{List, [], ◌∷◌, ◌++◌}
use Prim.Native.Nat.{ℕ, zero, suc, ◌+◌, ◌*◌, ◌-◌, ◌/◌, ◌%◌, ◌<◌, min}
use native.Mathlib.Nat.{add-zero, zero-mul, mod-lt, mod-eq_of_lt, div-eq_of_lt, mul-add-div_right, mul-add-mod_self_right, div-add-mod'}
use native.Mathlib.Omega.{arith}
use lib.Dec.{lit≤}
use lib.ListN.{length, take, drop, get_or, length-append, length-drop}
use lib.Seq.{get_or-drop}
use Rattle.fox_layers.specs.Words.{◌⊕◌, xor_each}
use Rattle.fox_rounds.specs.Skeleton.{size, turned}
use Rattle.fox_rounds.specs.declared.state.State.{State}
use Rattle.fox_rounds.specs.declared.state.State.TheVariants.{Of64, Of128}
use Rattle.fox_refusals.specs.Refusals.{block_size}
use Rattle.fox_block.specs.Block.{state, bytes, turn_with}
use Rattle.fox_block.proofs.Laws.Block.{state-size, turned-size, length-bytes}
use Rattle.fox_run.specs.Counter.{counter_block}
use Rattle.fox_run.specs.Run.{streamed, xor_from, key_stream, run_with}
use Rattle.fox_run.specs.States.{counted, sealed, stream}
use Rattle.fox_bytes.proofs.Laws.XorEach.{length-xor_each-min, take-xor_each}
use Rattle.fox_run.proofs.Laws.XorFrom.{xor_from-same}
use Rattle.fox_run.proofs.Laws.Counting.{counted-state}

-- the bytes of a stream from its byte n on are those of a list, up to the end of the list
abbrev pub StreamHas : (ℕ → ℕ) → ℕ → List ℕ → Type 0
StreamHas f n bs = (i : ℕ) → i < length bs → f (n + i) ≡ get_or bs i 0

pub xored-block : (f : ℕ → ℕ) (n : ℕ) (bs ds : List ℕ) → StreamHas f n bs → xor_from f n (take (length bs) ds) ≡ xor_each bs ds
unfolding xor_from xor_each
xored-block f n [] ds h = refl
xored-block f n (p ∷ ps) [] h = refl
xored-block f n (p ∷ ps) (d ∷ ds) h =
    let here : f n ≡ p = ap f (sym (add-zero n)) ∙ h 0 (omega arith) in
    let later : StreamHas f (suc n) ps = λ i l. ap f (omega arith) ∙ h (suc i) (omega arith) in
    ap₂ (λ (x : ℕ) (xs : List ℕ). x ∷ xs) (ap (λ (x : ℕ). x ⊕ d) here) (xored-block f (suc n) ps ds later)

stream_has-append : (f : ℕ → ℕ) (n : ℕ) (xs ys : List ℕ) → StreamHas f n xs → StreamHas f (n + length xs) ys → StreamHas f n (xs ++ ys)
stream_has-append f n [] ys hx hy i l = ap f (omega arith) ∙ hy i l
stream_has-append f n (x ∷ xs) ys hx hy zero l = hx 0 (omega arith)
stream_has-append f n (x ∷ xs) ys hx hy (suc i) l =
    let later : StreamHas f (suc n) xs = λ j h. ap f (omega arith) ∙ hx (suc j) (omega arith) in
    let after : StreamHas f (suc n + length xs) ys = λ j h. ap f (omega arith) ∙ hy j h in
    ap f (omega arith) ∙ stream_has-append f (suc n) xs ys later after i (omega arith)

-- blocks of a stream

unfoldable pub blocks_from : (ℕ → List ℕ) → ℕ → ℕ → List ℕ
blocks_from block i zero = []
blocks_from block i (suc k) = block i ++ blocks_from block (suc i) k

pub streamed-at : (B : ℕ) (block : ℕ → List ℕ) (q r : ℕ) → r < B → streamed B block (q * B + r) ≡ get_or (block q) r 0
unfolding streamed
streamed-at B block q r h =
    let number : (q * B + r) / B ≡ q = mul-add-div_right (omega arith) q r ∙ ap (λ (m : ℕ). q + m) (div-eq_of_lt h) ∙ add-zero q in
    let place : (q * B + r) % B ≡ r = mul-add-mod_self_right q B r ∙ mod-eq_of_lt h in
    ap₂ (λ (m k : ℕ). get_or (block m) k 0) number place

pub streamed-same : (B : ℕ) (f g : ℕ → List ℕ) → ((i : ℕ) → f i ≡ g i) → (n : ℕ) → streamed B f n ≡ streamed B g n
unfolding streamed
streamed-same B f g h n = ap (λ (xs : List ℕ). get_or xs (n % B) 0) (h (n / B))

module _ (B : ℕ) (block : ℕ → List ℕ) (pos : 0 < B) (size : (i : ℕ) → length (block i) ≡ B) where
  pub length_rest : (n : ℕ) → length (drop (n % B) (block (n / B))) ≡ B - n % B
  length_rest n = rw (length-drop (n % B) (block (n / B)), size (n / B))

  rest-in-stream : (n : ℕ) → StreamHas (streamed B block) n (drop (n % B) (block (n / B)))
  rest-in-stream n i h =
      let l : n % B + i < B = omega (arith, length_rest n, mod-lt n pos) in
      ap (streamed B block) (omega (arith, div-add-mod' n B)) ∙ streamed-at B block (n / B) (n % B + i) l ∙ sym (get_or-drop (n % B) (block (n / B)) i 0)

  -- the part of one block from byte n to the block's end, or to the end of the bytes
  pub length-within : (n : ℕ) (ds : List ℕ) → length (xor_each (drop (n % B) (block (n / B))) ds) ≡ min (B - n % B) (length ds)
  length-within n ds = length-xor_each-min _ ds ∙ ap (λ (k : ℕ). min k (length ds)) (length_rest n)

  pub within-taken : (n : ℕ) (ds : List ℕ)
      → xor_from (streamed B block) n (take (length (xor_each (drop (n % B) (block (n / B))) ds)) ds) ≡ xor_each (drop (n % B) (block (n / B))) ds
  within-taken n ds = ap (xor_from (streamed B block) n) (take-xor_each _ ds) ∙ xored-block (streamed B block) n _ ds (rest-in-stream n)

  -- whole blocks

  block-in-stream : (i : ℕ) → StreamHas (streamed B block) (i * B) (block i)
  block-in-stream i j h = streamed-at B block i j (omega (arith, size i))

  pub length-blocks_from : (i k : ℕ) → length (blocks_from block i k) ≡ k * B
  unfolding blocks_from
  length-blocks_from i zero = sym (zero-mul B)
  length-blocks_from i (suc k) = length-append (block i) (blocks_from block (suc i) k) ∙ omega (arith, size i, length-blocks_from (suc i) k)

  blocks-in-stream : (i k : ℕ) → StreamHas (streamed B block) (i * B) (blocks_from block i k)
  unfolding blocks_from
  blocks-in-stream i zero = λ j h. absurd (omega arith)
  blocks-in-stream i (suc k) =
      stream_has-append (streamed B block) (i * B) (block i) (blocks_from block (suc i) k) (block-in-stream i)
      (λ j h. ap (streamed B block) (omega (arith, size i)) ∙ blocks-in-stream (suc i) k j h)

  pub whole-blocks : (i k : ℕ) (ds : List ℕ) → xor_from (streamed B block) (i * B) (take (k * B) ds) ≡ xor_each (blocks_from block i k) ds
  whole-blocks i k ds =
      ap (λ (m : ℕ). xor_from (streamed B block) (i * B) (take m ds)) (sym (length-blocks_from i k))
      ∙ xored-block (streamed B block) (i * B) (blocks_from block i k) ds (blocks-in-stream i k)

-- the sealed counter blocks as a stream of blocks

pub counted-size : (x : State) (i : ℕ) → size (counted x i) ≡ size x
unfolding size counted
counted-size (Of64 x) i = refl
counted-size (Of128 x) i = refl

pub length-sealed : (rks : List ℕ) (x : State) (i : ℕ) → length (sealed rks x i) ≡ size x
unfolding sealed
length-sealed rks x i = length-bytes (turned true rks (counted x i)) ∙ turned-size true rks (counted x i) ∙ counted-size x i

pub size-pos : (x : State) → 0 < size x
unfolding size
size-pos (Of64 x) = lit≤ tt
size-pos (Of128 x) = lit≤ tt

-- a run is the bytes XORed with the stream of the first counter block's state
pub run-streamed : (c : ℕ) (rks counter : List ℕ) (n : ℕ) (ds : List ℕ) → length counter ≡ block_size c
    → xor_from (stream rks (state c counter)) n ds ≡ run_with c rks counter n ds
unfolding run_with key_stream stream sealed turn_with
run-streamed c rks counter n ds e =
    sym (ap (λ (B : ℕ). xor_from (streamed B (λ (i : ℕ). turn_with true c rks (counter_block counter i))) n ds) (sym (state-size c counter))
    ∙ xor_from-same _ _ n ds (streamed-same _ _ _ (λ i. ap (λ (x : State). bytes (turned true rks x)) (counted-state c counter i e))))
