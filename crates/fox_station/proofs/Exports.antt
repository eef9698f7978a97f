-- The theorems on the calls that C programs make, by either engine: what an export returns is a call's reply, so every theorem on calls holds of exports.
-- Assumes nothing.
use mathlib.Core.Path.{◌≡◌, refl, sym, ap, ◌∙◌}
use mathlib.Core.Bool.{Bool, true, false, not, cond}
use mathlib.Core.List.{List}
use mathlib.Core.Logic.{◌⊎◌}
use Prim.Native.Nat.{ℕ, ◌+◌, ◌/◌, ◌%◌, ◌^◌, ◌≤◌, ◌<◌}
use lib.Dec.{eqb}
use lib.ListN.{length, get_or, take, drop}
use Rattle.fox_layers.specs.Words.{◌⊕◌}
use Rattle.fox_refusals.specs.Refusals.{Refusal, refusal_of, First, block_size, Keyed, LongFor, Stretched, Tagged}
use Rattle.fox_refusals.specs.Reply.{Verdict, Served, Refused, Same}
use Rattle.fox_refusals.specs.Handed.{Handed, answer}
use Rattle.fox_refusals.specs.Answer.{Answer}
use Rattle.fox_refusals.proofs.Laws.Refusals.{first-given, given-first}
use Rattle.fox_refusals.proofs.Laws.Reply.{refused, handed-reply}
use Rattle.fox_key_schedule.specs.Schedule.{round_keys}
use Rattle.fox_block.specs.Block.{turn_block, seal_block, BlockOf}
use Rattle.fox_block.specs.Promise.{TurnedBack}
use Rattle.fox_block.proofs.Blocks.{block-served, old-block-opened, short-key-block, blocks-same, turned-back-calls}
use Rattle.fox_run.specs.Counter.{counter_block, first_counter}
use Rattle.fox_run.specs.Run.{run}
use Rattle.fox_run.specs.Promise.{Runs}
use Rattle.fox_run.specs.Cuts.{Call, CallsOf, CutOf}
use Rattle.fox_run.proofs.Laws.Served.{call-served}
use Rattle.fox_run.proofs.Bytes.{call-byte}
use Rattle.fox_run.proofs.Runs.{opened-sealed, old-run-opened, short-key-run, runs_same}
use Rattle.fox_run.proofs.Numbers.{counter-made, made-apart}
use Rattle.fox_run.proofs.Stretches.{stretch-opened-alone, cuts-joined, cuts-agree, cuts-undone, cuts-opened, stretch-of-cuts}
use Rattle.fox_tag.specs.Tag.{tag}
use Rattle.fox_tag.proofs.Tags.{tag-made, right-passes, other-told, passed-right, told-other, made-passes, tags-same}
use Rattle.fox_station.specs.Exports.{TurnHanded, RunHanded, RunExport, CounterHanded, MakeTagHanded, TestTagHanded}

-- a refused export leaves the output as it was, and its count is 0
pub export-refused : {rs : List Refusal} {value before after : List ℕ} {n : ℕ} → Handed rs value before after n → (n ≡ 0 → ⊥)
    → Refused rs before after (answer n (length before))
unfolding answer
export-refused h isnt = refused (handed-reply h) isnt

-- and returns the number of the first refusal that applies
pub export-refused-by : {rs : List Refusal} {value before after : List ℕ} {m n : ℕ} → Handed rs value before after n → First m rs → n ≡ m
export-refused-by h f = h.refusal ∙ first-given f

pub export-refused-first : {rs : List Refusal} {value before after : List ℕ} {n : ℕ} → Handed rs value before after n → (n ≡ 0 → ⊥) → First n rs
export-refused-first {rs} {n = n} h isnt = given-first n rs (sym h.refusal) isnt

-- two exports on the same block, or on the same stretch, with outputs of one length, answer the same

pub block-exports-agree : (d : Bool) (c rounds : ℕ) (key block : List ℕ) {before₁ before₂ after₁ after₂ : List ℕ} {m n : ℕ} → length before₁ ≡ length before₂
    → TurnHanded d c rounds key block before₁ after₁ m → TurnHanded d c rounds key block before₂ after₂ n
    → Same before₁ before₂ after₁ after₂ (answer m (length before₁)) (answer n (length before₂))
block-exports-agree d c rounds key block l a b =
    blocks-same d c rounds (length key) (round_keys c rounds key) block l (handed-reply a) (handed-reply b)

pub run-exports-agree : (d : Bool) (c rounds : ℕ) (key counter : List ℕ) (offset : ℕ) (ds : List ℕ) {before₁ before₂ after₁ after₂ : List ℕ} {m n : ℕ}
    → length before₁ ≡ length before₂ → RunHanded d c rounds key counter offset ds before₁ after₁ m
    → RunHanded d c rounds key counter offset ds before₂ after₂ n
    → Same before₁ before₂ after₁ after₂ (answer m (length before₁)) (answer n (length before₂))
run-exports-agree d c rounds key counter offset ds l a b =
    runs_same c rounds (length key) (round_keys c rounds key) counter offset ds d l (handed-reply a) (handed-reply b)

-- old blocks and runs open: an export that opens what the definition seals, with a key of any length from 0 to 32 bytes, gives it back

pub old-block-export : (c rounds : ℕ) (key block : List ℕ) {before after : List ℕ} {n : ℕ} → Keyed c rounds (length key) → BlockOf c block
    → length before ≡ block_size c → TurnHanded false c rounds key (seal_block c rounds key block) before after n
    → Served (block_size c) block after (answer n (length before))
old-block-export c rounds key block k b room call =
    old-block-opened c rounds (length key) (round_keys c rounds key) block k b room (handed-reply call)

pub old-run-export : (c rounds : ℕ) (key counter : List ℕ) (offset : ℕ) (ds : List ℕ) {before after : List ℕ} {n : ℕ}
    → Stretched false c rounds (length key) (length counter) offset (length ds) (length before)
    → RunHanded false c rounds key counter offset (run c rounds key counter offset ds) before after n → Served (length ds) ds after (answer n (length before))
old-run-export c rounds key counter offset ds h call =
    old-run-opened c rounds (length key) (round_keys c rounds key) counter offset ds h (handed-reply call)

-- an export that seals with a key under 16 bytes is refused with 13, with nothing else wrong with the key

pub short-key-block-export : (c rounds : ℕ) (key block : List ℕ) {before after : List ℕ} {n : ℕ} → Keyed c rounds (length key) → length key < 16
    → TurnHanded true c rounds key block before after n → (n ≡ 13) × (after ≡ before)
unfolding answer
short-key-block-export c rounds key block k short call =
    let (kept, is) = short-key-block c rounds (length key) (round_keys c rounds key) block k short (handed-reply call) in (is, kept.output)

pub short-key-run-export : (c rounds : ℕ) (key counter : List ℕ) (offset : ℕ) (ds : List ℕ) {before after : List ℕ} {n : ℕ}
    → Keyed c rounds (length key) → length key < 16 → RunHanded true c rounds key counter offset ds before after n → (n ≡ 13) × (after ≡ before)
unfolding answer
short-key-run-export c rounds key counter offset ds k short call =
    let (kept, is) = short-key-run c rounds (length key) (round_keys c rounds key) counter offset ds k short (handed-reply call) in (is, kept.output)

-- a block of the cipher's size is served, and opened, with a key of 0 to 32 bytes, or sealed, with one of 16 to 32
pub block-export-served : (d : Bool) (c rounds : ℕ) (key block : List ℕ) → Keyed c rounds (length key) → LongFor d (length key)
    → length block ≡ block_size c → {before after : List ℕ} {n : ℕ}
    → length before ≡ block_size c → TurnHanded d c rounds key block before after n → Served (block_size c) (turn_block d c rounds key block) after
    (answer n (length before))
block-export-served d c rounds key block k enough size room call =
    block-served d c rounds (length key) (round_keys c rounds key) block k enough size room (handed-reply call)

-- a stretch that meets no refusal is served, and sealed or opened
pub run-export-served : (d : Bool) (c rounds : ℕ) (key counter : List ℕ) (offset : ℕ) (ds : List ℕ) {before after : List ℕ} {n : ℕ}
    → Stretched d c rounds (length key) (length counter) offset (length ds) (length before) → RunHanded d c rounds key counter offset ds before after n
    → Served (length ds) (run c rounds key counter offset ds) after (answer n (length before))
run-export-served d c rounds key counter offset ds h call =
    call-served d c rounds (length key) (round_keys c rounds key) counter offset ds (handed-reply call) h

-- a block sealed or opened by one export, and the inverse export on its output: with a key of 16 to 32 bytes both are served, and the second gives the block
-- back
module _ (d : Bool) (c rounds : ℕ) (key block : List ℕ) (k : Keyed c rounds (length key)) (long : 16 ≤ length key) (b : BlockOf c block) where
  pub block-turned-back : {before mid before_back after : List ℕ} {m n : ℕ} → length before ≡ block_size c → length before_back ≡ block_size c
      → TurnHanded d c rounds key block before mid m → TurnHanded (not d) c rounds key mid before_back after n
      → TurnedBack c block after (answer m (length before)) (answer n (length before_back))
  block-turned-back room room_back first second =
      turned-back-calls d c rounds (length key) (round_keys c rounds key) block k long b room room_back (handed-reply first) (handed-reply second)

module _ (c rounds : ℕ) (key counter : List ℕ) where
  abbrev exports : Bool → Call
  exports d = RunExport d c rounds key counter

  export-runs : (d : Bool) (offset : ℕ) (ds before after : List ℕ) (r : Answer) → exports d offset ds before after r
      → Runs d c rounds key counter offset ds before after r
  export-runs d offset ds before after r e =
      record {
        refusal = e.number.refusal;
        count = e.count ∙ ap (λ (n : ℕ). cond (eqb n 0) (length before) 0) e.number.refusal;
        output = e.number.output;
      }

  -- an export on what a served export wrote, with an output of its length, is served and gives the bytes again; to seal what was opened takes a key of 16
  -- bytes or more
  pub run-opened-sealed : (d e : Bool) (offset : ℕ) (ds : List ℕ) {before after before₂ after₂ : List ℕ} {n : ℕ}
      → RunHanded d c rounds key counter offset ds before after 0 → LongFor e (length key) → RunHanded e c rounds key counter offset after before₂ after₂ n
      → length before₂ ≡ length after → Served (length ds) ds after₂ (answer n (length before₂))
  unfolding answer
  run-opened-sealed d e offset ds first enough second size =
      opened-sealed c rounds (length key) (round_keys c rounds key) counter offset ds d e (handed-reply first) refl enough (handed-reply second) size

  -- any m bytes of a run, at any byte k of it, opened alone by any export; or sealed, with a key of 16 bytes or more
  pub stretch-opened : (d : Bool) (whole : List ℕ) (k m : ℕ) {before after : List ℕ} {n : ℕ} → Keyed c rounds (length key) → LongFor d (length key)
      → length counter ≡ block_size c → length whole ≤ 1073741824 → k + m ≤ length whole → m ≤ 65536 → length before ≡ m
      → RunHanded d c rounds key counter k (take m (drop k whole)) before after n
      → Served m (take m (drop k (run c rounds key counter 0 whole))) after (answer n (length before))
  stretch-opened d whole k m keyed enough size long fits short room call =
      stretch-opened-alone d c rounds (length key) (round_keys c rounds key) counter whole k m keyed enough size long fits short room (handed-reply call)

  -- every byte that a served export wrote, in the words of 01
  pub export-byte : (d : Bool) (offset : ℕ) (ds : List ℕ) {before after : List ℕ} → RunHanded d c rounds key counter offset ds before after 0 → (i : ℕ)
      → i < length ds
      → get_or after i 0 ≡ get_or (seal_block c rounds key (counter_block counter ((offset + i) / block_size c))) ((offset + i) % block_size c) 0 ⊕ get_or ds i 0
  unfolding answer
  export-byte d offset ds call i within = call-byte c (round_keys c rounds key) counter offset ds i within d rounds (length key) (handed-reply call) refl

  -- a run cut anywhere, each stretch by some export: the outputs joined are the run
  pub exports-joined : (d : Bool) {n : ℕ} {inputs outputs : List ℕ} → CallsOf (exports d) n inputs outputs → outputs ≡ run c rounds key counter n inputs
  exports-joined = cuts-joined c rounds (length key) (round_keys c rounds key) counter exports export-runs

  -- the outputs joined are the same, whatever the cuts and the exports
  pub exports-cut-agree : (d e : Bool) {n : ℕ} {inputs one other : List ℕ} → CallsOf (exports d) n inputs one → CallsOf (exports e) n inputs other
      → one ≡ other
  exports-cut-agree = cuts-agree c rounds (length key) (round_keys c rounds key) counter exports export-runs

  -- sealed in some stretches and opened in others, or the other way about: the bytes come back
  pub exports-cut-undone : (d e : Bool) {n : ℕ} {inputs sealed opened : List ℕ} → CallsOf (exports d) n inputs sealed → CallsOf (exports e) n sealed opened
      → opened ≡ inputs
  exports-cut-undone = cuts-undone c rounds (length key) (round_keys c rounds key) counter exports export-runs

  module _ (d : Bool) (k : Keyed c rounds (length key)) (enough : LongFor d (length key)) (size : length counter ≡ block_size c) where
    -- a run cut into stretches of at most 65,536 bytes, each with an output of its length: all are served, and the outputs joined are the run
    pub exports-opened : {n : ℕ} {inputs outputs : List ℕ} → n + length inputs ≤ 1073741824 → CutOf (exports d) n inputs outputs
        → CallsOf (exports d) n inputs outputs × (outputs ≡ run c rounds key counter n inputs)
    exports-opened = cuts-opened c rounds (length key) (round_keys c rounds key) counter exports export-runs d k enough size

    -- a stretch opened alone is that part of what any cuts gave
    pub stretch-of-exports : (whole : List ℕ) {outputs : List ℕ} (at m : ℕ) {before after : List ℕ} {r : Answer} → length whole ≤ 1073741824
        → CutOf (exports d) 0 whole outputs → at + m ≤ length whole → m ≤ 65536 → length before ≡ m
        → exports d at (take m (drop at whole)) before after r → Served m (take m (drop at outputs)) after r
    stretch-of-exports = stretch-of-cuts c rounds (length key) (round_keys c rounds key) counter exports export-runs d k enough size

-- first counter blocks

-- a buffer of the cipher's block is served, and gets the first counter block of the run with that number
pub counter-export-made : (c number : ℕ) {before after : List ℕ} {n : ℕ} → (c ≡ 64) ⊎ (c ≡ 128) → length before ≡ block_size c
    → CounterHanded c number before after n → Served (block_size c) (first_counter c number) after (answer n (length before))
counter-export-made c number known size call = counter-made c number known size (handed-reply call)

-- runs whose counters the export made from different numbers: no byte of the one is in a block that has the counter block of a byte of the other
pub counter-exports-apart : (c m n : ℕ) {before₁ after₁ before₂ after₂ : List ℕ} → m < 2 ^ 32 → n < 2 ^ 32 → CounterHanded c m before₁ after₁ 0
    → CounterHanded c n before₂ after₂ 0 → (m ≡ n → ⊥) → (a b : ℕ) → a < 1073741824 → b < 1073741824
    → counter_block after₁ (a / block_size c) ≡ counter_block after₂ (b / block_size c) → ⊥
unfolding answer
counter-exports-apart c m n hm hn first second = made-apart c m n hm hn (handed-reply first) refl (handed-reply second) refl

-- tags

-- a test's number with count 0
told : {rs : List Refusal} {n : ℕ} → n ≡ refusal_of rs → Verdict rs (record { refusal = n; count = 0 })
told e = record { refusal = e; count = refl }

-- a test returns a number other than 0 exactly when it is that of the first refusal that applies
pub test-export-by : {rs : List Refusal} {m n : ℕ} → n ≡ refusal_of rs → First m rs → n ≡ m
test-export-by e f = e ∙ first-given f

pub test-export-first : {rs : List Refusal} {n : ℕ} → n ≡ refusal_of rs → (n ≡ 0 → ⊥) → First n rs
test-export-first {rs} {n} e isnt = given-first n rs (sym e) isnt

module _ (c rounds : ℕ) (key message : List ℕ) where
  -- making is served for every message of at most 1,073,741,824 bytes and a buffer of B bytes, and gives the tag
  pub tag-export-made : {before after : List ℕ} {n : ℕ} → Keyed c rounds (length key) → length message ≤ 1073741824 → length before ≡ block_size c
      → MakeTagHanded c rounds key message before after n → Served (block_size c) (tag c rounds key message) after (answer n (length before))
  tag-export-made k few room call = tag-made c rounds (length key) (round_keys c rounds key) message k few room (handed-reply call)

  -- the right tag passes, and any other tag of B bytes is told
  pub right-export-passes : {stored : List ℕ} {n : ℕ} → Keyed c rounds (length key) → length message ≤ 1073741824 → stored ≡ tag c rounds key message
      → TestTagHanded c rounds key message stored n → n ≡ 0
  right-export-passes k few is call = right-passes c rounds (length key) (round_keys c rounds key) message k few is (told call)

  pub other-export-told : (stored : List ℕ) {n : ℕ} → Keyed c rounds (length key) → length message ≤ 1073741824 → length stored ≡ block_size c
      → (stored ≡ tag c rounds key message → ⊥) → TestTagHanded c rounds key message stored n → n ≡ 10
  other-export-told stored k few room isnt call = other-told c rounds (length key) (round_keys c rounds key) message k few room isnt (told call)

  -- 0 only where the stored tag is the right one, and 10 only where it is not
  pub passed-export-right : (stored : List ℕ) → TestTagHanded c rounds key message stored 0
      → Tagged c rounds (length key) (length message) (length stored) × (stored ≡ tag c rounds key message)
  passed-export-right stored call = passed-right c rounds (length key) (round_keys c rounds key) message (told call) refl

  pub told-export-other : (stored : List ℕ) → TestTagHanded c rounds key message stored 10
      → Tagged c rounds (length key) (length message) (length stored) × (stored ≡ tag c rounds key message → ⊥)
  told-export-other stored call = told-other c rounds (length key) (round_keys c rounds key) message (told call) refl

  -- a tag that one export made passes the test of another
  pub made-export-passes : {before after : List ℕ} {n : ℕ} → MakeTagHanded c rounds key message before after 0 → TestTagHanded c rounds key message after n
      → n ≡ 0
  unfolding answer
  made-export-passes make test = (made-passes c rounds (length key) (round_keys c rounds key) message (handed-reply make) refl (told test)).0

  -- two exports that make the tag of the same message, with buffers of one length, answer the same, and so do two that test the same stored tag
  pub tag-exports-agree : {before₁ before₂ after₁ after₂ : List ℕ} {m n : ℕ} → length before₁ ≡ length before₂
      → MakeTagHanded c rounds key message before₁ after₁ m → MakeTagHanded c rounds key message before₂ after₂ n
      → Same before₁ before₂ after₁ after₂ (answer m (length before₁)) (answer n (length before₂))
  tag-exports-agree l a b = tags-same c rounds (length key) (round_keys c rounds key) message l (handed-reply a) (handed-reply b)

  pub test-exports-agree : (stored : List ℕ) {m n : ℕ} → TestTagHanded c rounds key message stored m → TestTagHanded c rounds key message stored n → m ≡ n
  test-exports-agree stored a b = a ∙ sym b
