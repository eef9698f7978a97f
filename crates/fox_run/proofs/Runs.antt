-- Opening a run undoes sealing it, and sealing undoes opening, since both are the same XOR, and XOR twice with the same key stream changes nothing: with any
-- list of round keys, so with those that a prepared key holds and with those of a key, for every cipher, round count, counter block and offset, and keys of 16
-- to 32 bytes. Two calls in one direction on the same stretch, with outputs of one length, answer the same, whichever engines they are; and
-- sealing with a key under 16 bytes is refused with 13.
-- Assumes nothing.
use mathlib.Core.Path.{◌≡◌, ap, ◌∙◌}
use mathlib.Core.Bool.{Bool, true, false}
use mathlib.Core.List.{List}
use Prim.Native.Nat.{ℕ, ◌<◌}
use native.Mathlib.Omega.{arith}
use lib.ListN.{length}
use Rattle.fox_refusals.specs.Refusals.{for_run, Keyed, LongFor, Stretched}
use Rattle.fox_refusals.specs.Reply.{Served, Refused, Same}
use Rattle.fox_refusals.specs.Answer.{Answer}
use Rattle.fox_refusals.proofs.Laws.Reply.{short-key-refused, same}
use Rattle.fox_run.specs.Run.{run_with}
use Rattle.fox_run.specs.Promise.{RunsWith}
use Rattle.fox_run.proofs.Laws.XorFrom.{xor_from-twice}
use Rattle.fox_run.proofs.Laws.Served.{length-run_with, call_known, call-served, call-did}

pub run-twice : (c : ℕ) (rks counter : List ℕ) (offset : ℕ) (ds : List ℕ) → run_with c rks counter offset (run_with c rks counter offset ds) ≡ ds
unfolding run_with
run-twice c rks counter offset ds = xor_from-twice _ offset ds

module _ (c rounds k : ℕ) (rks counter : List ℕ) (offset : ℕ) (ds : List ℕ) where
  -- a call on what a served call wrote, with an output of its length, is served and gives the bytes again. What was sealed is opened with every key that it was
  -- sealed with; to seal what was opened takes a key of 16 bytes or more
  pub opened-sealed : (d e : Bool) {before after before₂ after₂ : List ℕ} {r r₂ : Answer} → RunsWith d c rounds k rks counter offset ds before after r
      → r.refusal ≡ 0 → LongFor e k → RunsWith e c rounds k rks counter offset after before₂ after₂ r₂ → length before₂ ≡ length after
      → Served (length ds) ds after₂ r₂
  opened-sealed d e {after = after} first zero enough second size =
      let known = call_known d c rounds k rks counter offset ds first zero in
      let sealed = (call-did d c rounds k rks counter offset ds first zero).output in
      let long : length after ≡ length ds = ap length sealed ∙ length-run_with c rks counter offset ds in
      let opened =
      call-served e c rounds k rks counter offset after second
      (record { keyed = known.keyed; long = enough; counter = known.counter; short = omega arith; output = size; end = omega arith }) in
      record {
        refusal = opened.refusal;
        count = opened.count ∙ long;
        output = opened.output ∙ ap (run_with c rks counter offset) sealed ∙ run-twice c rks counter offset ds;
      }

  -- old runs open: a call that opens what the definition seals, with a key of any length from 0 to 32 bytes, gives the bytes back
  pub old-run-opened : {before after : List ℕ} {r : Answer} → Stretched false c rounds k (length counter) offset (length ds) (length before)
      → RunsWith false c rounds k rks counter offset (run_with c rks counter offset ds) before after r → Served (length ds) ds after r
  old-run-opened h call =
      let long = length-run_with c rks counter offset ds in
      let s = call-served false c rounds k rks counter offset (run_with c rks counter offset ds) call (rw long h) in
      record { refusal = s.refusal; count = s.count ∙ long; output = s.output ∙ run-twice c rks counter offset ds }

  -- sealing with a key under 16 bytes is refused with 13, with nothing else wrong with the key
  pub short-key-run : {before after : List ℕ} {r : Answer} → Keyed c rounds k → k < 16 → RunsWith true c rounds k rks counter offset ds before after r
      → Refused (for_run true c rounds k (length counter) offset (length ds) (length before)) before after r × (r.refusal ≡ 13)
  unfolding for_run
  short-key-run keyed short call = short-key-refused _ keyed short call

  pub runs_same : (d : Bool) {before₁ before₂ after₁ after₂ : List ℕ} {r₁ r₂ : Answer} → length before₁ ≡ length before₂
      → RunsWith d c rounds k rks counter offset ds before₁ after₁ r₁ → RunsWith d c rounds k rks counter offset ds before₂ after₂ r₂
      → Same before₁ before₂ after₁ after₂ r₁ r₂
  runs_same d l a b = same (ap (for_run d c rounds k (length counter) offset (length ds)) l) l a b
