-- Runs that have numbers: runs whose first counter blocks were made from different numbers share no counter block. Counter block i of run number m, as one
-- number, is m * 2 ^ 32 + i: a run has fewer than 2 ^ 32 blocks, and the sum is below 2 ^ 64, so that no block is beyond the width and none is that of another
-- run.
-- Assumes nothing.
use mathlib.Core.Path.{◌≡◌, refl, sym, ap, ap₂, ◌∙◌}
use mathlib.Core.Logic.{◌⊎◌}
use mathlib.Core.List.{List, [], ◌∷◌}
use Prim.Native.Nat.{ℕ, ◌+◌, ◌*◌, ◌/◌, ◌%◌, ◌^◌, ◌<◌}
use native.Mathlib.Nat.{mod-eq_of_lt, div-mul-le_self, lt_trans}
use native.Mathlib.Omega.{arith}
use lib.Pow.{pow-lt}
use lib.ListN.{length}
use Rattle.fox_layers.specs.Words.{joined, split}
use Rattle.fox_layers.proofs.Laws.Words.{length-split, joined-split}
use Rattle.fox_refusals.specs.Refusals.{block_size}
use Rattle.fox_refusals.specs.Reply.{Served}
use Rattle.fox_refusals.specs.Answer.{Answer}
use Rattle.fox_refusals.proofs.Laws.Refusals.{counter-served, counter-known}
use Rattle.fox_refusals.proofs.Laws.Reply.{served}
use Rattle.fox_block.proofs.Laws.Block.{by-cipher, size_64, size-128}
use Rattle.fox_run.specs.Counter.{counter_block, first_counter}
use Rattle.fox_run.specs.Promise.{MakesCounter}
use Rattle.fox_run.proofs.Counters.{counting, run-blocks}

-- known values: the number stands in the four bytes before the last four
pub first-values : first_counter 64 0 ∷ first_counter 64 16909060 ∷ first_counter 64 4294967295 ∷ first_counter 128 16909060 ∷ first_counter 128 4294967295 ∷ []
    ≡ (0 ∷ 0 ∷ 0 ∷ 0 ∷ 0 ∷ 0 ∷ 0 ∷ 0 ∷ [])
    ∷ (1 ∷ 2 ∷ 3 ∷ 4 ∷ 0 ∷ 0 ∷ 0 ∷ 0 ∷ [])
    ∷ (255 ∷ 255 ∷ 255 ∷ 255 ∷ 0 ∷ 0 ∷ 0 ∷ 0 ∷ [])
    ∷ (0 ∷ 0 ∷ 0 ∷ 0 ∷ 0 ∷ 0 ∷ 0 ∷ 0 ∷ 1 ∷ 2 ∷ 3 ∷ 4 ∷ 0 ∷ 0 ∷ 0 ∷ 0 ∷ [])
    ∷ (0 ∷ 0 ∷ 0 ∷ 0 ∷ 0 ∷ 0 ∷ 0 ∷ 0 ∷ 255 ∷ 255 ∷ 255 ∷ 255 ∷ 0 ∷ 0 ∷ 0 ∷ 0 ∷ [])
    ∷ []
unfolding first_counter split block_size
first-values = refl

pub length-first : (c n : ℕ) → length (first_counter c n) ≡ block_size c
unfolding first_counter
length-first c n = length-split (block_size c) _

-- a number below 2 ^ 64 fits a counter block of either cipher
fits : (c w : ℕ) → w < 2 ^ 64 → w < 2 ^ (8 * block_size c)
fits c w h = by-cipher c (λ e. rw (size_64 c e) (omega arith)) (λ n. rw (size-128 c n) (lt_trans h (pow-lt {i = 64} {j = 128} (omega arith))))

-- counter block i of run number m, as one number
pub number-of : (c m i : ℕ) → m < 2 ^ 32 → i * block_size c < 1073741824 → joined (counter_block (first_counter c m) i) ≡ m * 2 ^ 32 + i
unfolding first_counter
number-of c m i hm hi =
    let first : joined (first_counter c m) ≡ m * 2 ^ 32 = joined-split (block_size c) (m * 2 ^ 32) (fits c (m * 2 ^ 32) (omega arith)) in
    counting (first_counter c m) i
    ∙ ap₂ (λ (w n : ℕ). (w + i) % 2 ^ (8 * n)) first (length-first c m)
    ∙ mod-eq_of_lt (fits c (m * 2 ^ 32 + i) (omega (arith, run-blocks c i hi)))

-- a counter block tells the run's number and the block's place in the run
pub runs-apart : (c m n i j : ℕ) → m < 2 ^ 32 → n < 2 ^ 32 → i * block_size c < 1073741824 → j * block_size c < 1073741824
    → counter_block (first_counter c m) i ≡ counter_block (first_counter c n) j → (m ≡ n) × (i ≡ j)
runs-apart c m n i j hm hn hi hj e =
    let same : m * 2 ^ 32 + i ≡ n * 2 ^ 32 + j = sym (number-of c m i hm hi) ∙ ap joined e ∙ number-of c n j hn hj in
    (omega (arith, run-blocks c i hi, run-blocks c j hj), omega (arith, run-blocks c i hi, run-blocks c j hj))

-- the calls that make first counter blocks

-- a buffer of the cipher's block is served, and gets the first counter block
pub counter-made : (c n : ℕ) {before after : List ℕ} {r : Answer} → (c ≡ 64) ⊎ (c ≡ 128) → length before ≡ block_size c → MakesCounter c n before after r
    → Served (block_size c) (first_counter c n) after r
counter-made c n {before} known size call =
    let s = served call (counter-served c (length before) known size) in
    record { refusal = s.refusal; count = s.count ∙ size; output = s.output }

-- what a call that answered 0 gives
pub counter-did : (c n : ℕ) {before after : List ℕ} {r : Answer} → MakesCounter c n before after r → r.refusal ≡ 0 → after ≡ first_counter c n
counter-did c n {before} call e =
    let known = counter-known c (length before) (sym call.refusal ∙ e) in
    (counter-made c n known.0 known.1 call).output

-- runs whose counters two calls made from different numbers: no byte of the one is in a block that has the counter block of a byte of the other
pub made-apart : (c m n : ℕ) {before₁ after₁ before₂ after₂ : List ℕ} {r₁ r₂ : Answer} → m < 2 ^ 32 → n < 2 ^ 32
    → MakesCounter c m before₁ after₁ r₁ → r₁.refusal ≡ 0 → MakesCounter c n before₂ after₂ r₂ → r₂.refusal ≡ 0 → (m ≡ n → ⊥)
    → (a b : ℕ) → a < 1073741824 → b < 1073741824 → counter_block after₁ (a / block_size c) ≡ counter_block after₂ (b / block_size c) → ⊥
made-apart c m n hm hn first e₁ second e₂ differ a b ha hb shared =
    let B = block_size c in
    differ (runs-apart c m n (a / B) (b / B) hm hn (omega (arith, div-mul-le_self a B)) (omega (arith, div-mul-le_self b B))
    (sym (ap (λ (xs : List ℕ). counter_block xs (a / B)) (counter-did c m first e₁)) ∙ shared
    ∙ ap (λ (xs : List ℕ). counter_block xs (b / B)) (counter-did c n second e₂))).0
