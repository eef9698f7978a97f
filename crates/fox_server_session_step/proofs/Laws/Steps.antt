-- The block in use and the bytes XORed with it: a block is that of every position with its number, the bytes from a position to its block's end are those of
-- the run, and what two parts wrote one after the other is the run's stretch.
-- Assumes nothing.
use mathlib.Core.Path.{◌≡◌, refl, sym, ap, ap₂, ◌∙◌}
use mathlib.Core.Bool.{true}
use mathlib.Core.List.{List, ◌++◌}
use Prim.Native.Nat.{ℕ, ◌+◌, ◌-◌, ◌/◌, ◌%◌, ◌≤◌, ◌<◌, min}
use native.Mathlib.Omega.{arith}
use borrow.Rule.Slice.PartMut.{mid_of, put_mid}
use lib.Dec.{ltb}
use lib.ListN.{length, take, drop, length-append, length-take, length-drop, take-append-drop, drop_of_length-le}
use lib.Seq.{length-take-le, take_at}
use borrow.Author.Tests.{ltb-true, ltb-false}
use Rattle.fox_layers.specs.Words.{xor_each}
use Rattle.fox_layers.proofs.Laws.Lists.{by-test}
use Rattle.fox_bytes.proofs.Laws.XorEach.{length-xor_each-min}
use Rattle.fox_bytes.proofs.Laws.WordsInBytes.{put-end}
use Rattle.fox_refusals.specs.Refusals.{refusal_of, block_size, for_run, Keyed}
use Rattle.fox_block.specs.Block.{seal_with}
use Rattle.fox_block.proofs.Laws.Block.{by-cipher, size_64, size-128, length-turned}
use Rattle.fox_run.specs.Counter.{counter_block}
use Rattle.fox_run.specs.Run.{xor_from, key_stream, run_with}
use Rattle.fox_run.specs.Parts.{Xored, XoredTo}
use Rattle.fox_run.proofs.Laws.XorFrom.{length-xor_from}
use Rattle.fox_run.proofs.Laws.Loop.{part_end, length-end, xored_to-last}
use Rattle.fox_run.proofs.Laws.Parts.{part-made}
use Rattle.fox_run.proofs.Laws.Served.{length-run_with}
use Rattle.fox_run.proofs.Stretches.{run-append}
use Rattle.fox_session.specs.declared.Pair.{Pair}
use Rattle.fox_session.specs.declared.Here.{Here}
use Rattle.fox_session.specs.Machine.{refusal_on}
use Rattle.fox_session.specs.InUse.{held_block, BlockAt}
use Rattle.fox_server_key.specs.Prepared.{held_keys}
use Rattle.fox_server_session_step.specs.declared.step.Basis.{Basis}
use Rattle.fox_server_session_step.specs.Step.{machine_at, Passes, Renews}
use Rattle.fox_server_session_block.proofs.Laws.Blocks.{size-some, length-held_block}

-- what holds of 8 and of 16 holds of the block size
by_size : (c : ℕ) (P : ℕ → Type 0) → P 8 → P 16 → P (block_size c)
by_size c P eight sixteen = by-cipher c (λ e. rw (size_64 c e) eight) (λ n. rw (size-128 c n) sixteen)

both-empty : (xs ys : List ℕ) → length xs ≡ 0 → length ys ≡ 0 → xs ≡ ys
both-empty xs ys e f = drop_of_length-le xs {i = 0} (omega arith) ∙ sym (drop_of_length-le ys {i = 0} (omega arith))

-- positions in one block

-- the run's end begins a block, so no block lies on both sides of it
below_end : (c m n : ℕ) → m / block_size c ≡ n / block_size c → n < 1073741824 → m < 1073741824
below_end c m n e h = by_size c (λ (B : ℕ). m / B ≡ n / B → m < 1073741824) (λ f. omega arith) (λ f. omega arith) e

-- within a block the number stays
number-stays : (c n k : ℕ) → n % block_size c + k < block_size c → n / block_size c ≡ (n + k) / block_size c
number-stays c n k = by_size c (λ (B : ℕ). n % B + k < B → n / B ≡ (n + k) / B) (λ h. omega arith) (λ h. omega arith)

-- of d bytes, m are whole blocks, and fewer than a block come after them
module _ (c d : ℕ) {m B : ℕ} (e : B ≡ block_size c) (whole : m ≡ d - d % B) where
  whole-end : (n : ℕ) → n % block_size c ≡ 0 → (n + m) % block_size c ≡ 0
  whole-end n = rw (whole, e) (by_size c (λ (A : ℕ). n % A ≡ 0 → (n + (d - d % A)) % A ≡ 0) (λ h. omega arith) (λ h. omega arith))

  whole-rest : d - m < block_size c
  whole-rest = rw (whole, e) (by_size c (λ (A : ℕ). d - (d - d % A) < A) (omega arith) (omega arith))

-- an XOR is no longer than the input
pub xored-within : {bs ds os after : List ℕ} {r : ℕ} → Xored bs ds os after r → r ≤ length ds
xored-within {bs} {ds} x = omega (arith, x.count, length-xor_each-min bs ds)

-- the XOR with what is left of a block, from byte n of a run on

module _ (c n : ℕ) (w : Pair) (ds os : List ℕ) {after : List ℕ} {B r : ℕ} (e : B ≡ block_size c) (x : Xored (drop (n % B) (held_block c w)) ds os after r) where
  count-xored : r ≡ min (B - n % B) (length ds)
  count-xored =
      x.count ∙ length-xor_each-min (drop (n % B) (held_block c w)) ds
      ∙ ap (λ (k : ℕ). min k (length ds)) (length-drop (n % B) (held_block c w) ∙ ap (λ (k : ℕ). k - n % B) (length-held_block c w ∙ sym e))

  -- where the bytes go on past the block, the XOR ends with it
  pub xored-end : B ≤ n % B + length ds → (n + r) % block_size c ≡ 0
  xored-end past =
      let rest : r ≡ B - n % B = omega (arith, count-xored) in
      ap₂ (λ (k A : ℕ). (n + k) % A) rest (sym e) ∙ rw e (by_size c (λ (A : ℕ). (n + (A - n % A)) % A ≡ 0) (omega arith) (omega arith))

  -- it is the run's stretch, where the block is that of the position; at the run's end there are no bytes
  xored-run : (rks counter : List ℕ) → n + length ds ≤ 1073741824 → BlockAt c rks counter n w → XoredTo (key_stream c rks counter) n ds os r after
  unfolding key_stream
  xored-run rks counter within at =
      by-test (ltb n 1073741824)
      (λ t.
      (part-made (block_size c) (λ (i : ℕ). seal_with c rks (counter_block counter i)) (size-some c refl)
      (λ i. length-turned true c rks (counter_block counter i)) n (at (ltb-true n 1073741824 t)) (rw e at x)).output)
      (λ t.
      let none : length ds ≡ 0 = omega (arith, ltb-false n 1073741824 t) in
      let empty : xor_each (drop (n % B) (held_block c w)) ds ≡ xor_from (key_stream c rks counter) n (take r ds) =
      both-empty _ _ (omega (arith, count-xored, x.count)) (length-xor_from _ n (take r ds) ∙ omega (arith, length-take r ds)) in
      x.output ∙ ap (λ (xs : List ℕ). xs ++ drop r os) empty)

module _ (c : ℕ) (rks counter : List ℕ) where
  -- a block is that of every position with its number
  same_block : (m n : ℕ) (w : Pair) → m / block_size c ≡ n / block_size c → BlockAt c rks counter m w → BlockAt c rks counter n w
  same_block m n w e at h = at (below_end c m n e h) ∙ ap (λ (i : ℕ). seal_with c rks (counter_block counter i)) e

  -- bytes that end before their block does
  in_block : (n : ℕ) (w : Pair) (ds os : List ℕ) {after : List ℕ} {B r : ℕ} → B ≡ block_size c → n % B + length ds < B → n + length ds ≤ 1073741824
      → length os ≡ length ds → BlockAt c rks counter n w → Xored (drop (n % B) (held_block c w)) ds os after r → after ≡ run_with c rks counter n ds
  unfolding run_with
  in_block n w ds os {r = r} e short within room at x =
      xored_to-last (key_stream c rks counter) n ds os r room (omega (arith, count-xored c n w ds os e x)) (xored-run c n w ds os e x rks counter within at)

  -- a stretch in two parts, one written after the other
  run-joined : (n at : ℕ) (ds l : List ℕ) {part : List ℕ} → at ≤ length ds → take at l ≡ run_with c rks counter n (take at ds)
      → part ≡ run_with c rks counter (n + at) (mid_of at (length ds - at) ds) → put_mid at (length l - at) l part ≡ run_with c rks counter n ds
  run-joined n at ds l {part} h front rest =
      put-end at l part
      ∙ ap₂ (λ (xs ys : List ℕ). xs ++ ys) front
      (rest ∙ ap₂ (λ (m : ℕ) (xs : List ℕ). run_with c rks counter (n + m) xs) (sym (length-take-le at ds h)) (part_end at ds))
      ∙ sym (run-append c rks counter n (take at ds) (drop at ds)) ∙ ap (run_with c rks counter n) (take-append-drop at ds)

  -- whole blocks from a block's first byte on, m bytes, and the rest by the block that the next position is in
  pub run-further : (n m : ℕ) (w : Pair) (ds os front : List ℕ) {part : List ℕ} {B r : ℕ} → B ≡ block_size c → m ≡ length ds - length ds % B
      → n % block_size c ≡ 0 → n + length ds ≤ 1073741824 → length os ≡ length ds → front ≡ run_with c rks counter n (take m ds)
      → BlockAt c rks counter (n + length ds) w
      → Xored (drop 0 (held_block c w)) (mid_of m (length ds - m) ds) (mid_of m (length (front ++ drop m os) - m) (front ++ drop m os)) part r
      → put_mid m (length (front ++ drop m os) - m) (front ++ drop m os) part ≡ run_with c rks counter n ds
  run-further n m w ds os front {part} {B} {r} e whole start within room done at x =
      let l = front ++ drop m os in
      let mid = mid_of m (length ds - m) ds in
      let less : m ≤ length ds = omega arith in
      let size : length front ≡ m = ap length done ∙ length-run_with c rks counter n (take m ds) ∙ length-take-le m ds less in
      let place : (n + m) % block_size c ≡ 0 = whole-end c (length ds) e whole n start in
      let short : (n + m) % block_size c + length mid < block_size c = omega (arith, place, whole-rest c (length ds) e whole, length-end m ds) in
      let end : n + m + length mid ≡ n + length ds = omega (arith, length-end m ds) in
      let here : BlockAt c rks counter (n + m) w =
      same_block (n + length ds) (n + m) w (sym (number-stays c (n + m) (length mid) short ∙ ap (λ (k : ℕ). k / block_size c) end)) at in
      let long : length l ≡ length ds = length-append front (drop m os) ∙ omega (arith, length-drop m os) in
      run-joined n m ds l less (take_at front (drop m os) m size ∙ done)
      (in_block (n + m) w mid (mid_of m (length l - m) l) {after = part} {r = r} refl short (omega arith)
      (length-end m l ∙ omega (arith, length-end m ds)) here (rw place x))

-- what the parts of the calls promise

module _ (b : Basis) (keys : List ℕ) (here : Here) (ds os : List ℕ) (keyed : Keyed b.cipher b.rounds b.key_len)
    (within : here.position + length ds ≤ 1073741824) (room : length os ≡ length ds) {after : List ℕ} {B r : ℕ} (e : B ≡ block_size b.cipher)
    (x : Xored (drop (here.position % B) (held_block b.cipher here.block)) ds os after r) where
  -- the bytes end within the block in use, which stays
  pub passes-within : here.position % B + length ds < B → Passes b keys here ds after here.block
  unfolding machine_at
  passes-within short =
      let rks = held_keys b.cipher keys b.rounds in
      let counter = held_block b.cipher b.counter in
      record {
        bytes = λ t. in_block b.cipher rks counter here.position here.block ds os e short within room (t keyed) x;
        block = λ t k. same_block b.cipher rks counter here.position (here.position + length ds) here.block
            (number-stays b.cipher here.position (length ds) (rw e at short)) (t keyed);
      }

  -- the block's rest is done, and the bytes go on
  pub passes_on : (w : Pair) {part : List ℕ}
      → part ≡ run_with b.cipher (held_keys b.cipher keys b.rounds) (held_block b.cipher b.counter) (here.position + r) (mid_of r (length ds - r) ds)
      → BlockAt b.cipher (held_keys b.cipher keys b.rounds) (held_block b.cipher b.counter) (here.position + r + length (mid_of r (length ds - r) ds)) w
      → Passes b keys here ds (put_mid r (length after - r) after part) w
  unfolding machine_at run_with
  passes_on w {part} bytes block =
      let c = b.cipher in
      let rks = held_keys c keys b.rounds in
      let counter = held_block c b.counter in
      let n = here.position in
      let done : r ≤ length ds = xored-within x in
      let size : length (xor_from (key_stream c rks counter) n (take r ds)) ≡ r = length-xor_from _ n (take r ds) ∙ length-take-le r ds done in
      let end : n + r + length (mid_of r (length ds - r) ds) ≡ n + length ds = omega (arith, length-end r ds) in
      record {
        bytes = λ t.
            run-joined c rks counter n r ds after done
            (ap (take r) (xored-run c n here.block ds os e x rks counter within (t keyed)) ∙ take_at _ (drop r os) r size)
            bytes;
        block = λ t k. rw end at block;
      }

module _ (b : Basis) (keys : List ℕ) (here : Here) (to : ℕ) where
  -- a position with the number of the one in use
  pub renews-same : {B : ℕ} → B ≡ block_size b.cipher → to / B ≡ here.position / B → Renews b keys here to here.block
  unfolding machine_at
  renews-same e same t k = same_block b.cipher _ _ here.position to here.block (sym (rw e at same)) (t k)

  pub renews-new : (w : Pair) → BlockAt b.cipher (held_keys b.cipher keys b.rounds) (held_block b.cipher b.counter) to w → Renews b keys here to w
  unfolding machine_at
  renews-new w made t k = made

-- the refusals of a session's machine are those of a stretch whose counter block has the cipher's block size
pub refusal-with : (b : Basis) (keys : List ℕ) (here : Here) (offset input_len out_len : ℕ) {B : ℕ} → B ≡ block_size b.cipher
    → refusal_of (for_run b.sealing b.cipher b.rounds b.key_len B offset input_len out_len) ≡ refusal_on (machine_at b keys here) offset input_len out_len
unfolding machine_at
refusal-with b keys here offset input_len out_len e =
    ap (λ (n : ℕ). refusal_of (for_run b.sealing b.cipher b.rounds b.key_len n offset input_len out_len))
    (e ∙ sym (length-held_block b.cipher b.counter))
