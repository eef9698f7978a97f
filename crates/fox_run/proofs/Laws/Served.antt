-- Calls on a stretch of a run, from what they promise: where no refusal applies the answer is 0, the count is the input's length, and the output is the
-- stretch; and a call that answered 0 met no refusal.
-- Assumes nothing.
use mathlib.Core.Path.{◌≡◌, sym, ◌∙◌}
use mathlib.Core.Bool.{Bool}
use mathlib.Core.List.{List}
use Prim.Native.Nat.{ℕ}
use lib.ListN.{length}
use Rattle.fox_refusals.specs.Refusals.{Stretched}
use Rattle.fox_refusals.specs.Reply.{Served}
use Rattle.fox_refusals.specs.Answer.{Answer}
use Rattle.fox_refusals.proofs.Laws.Refusals.{stretched, stretched-served}
use Rattle.fox_refusals.proofs.Laws.Reply.{served}
use Rattle.fox_run.specs.Run.{run_with}
use Rattle.fox_run.specs.Promise.{RunsWith}
use Rattle.fox_run.proofs.Laws.XorFrom.{length-xor_from}

pub length-run_with : (c : ℕ) (rks counter : List ℕ) (n : ℕ) (ds : List ℕ) → length (run_with c rks counter n ds) ≡ length ds
unfolding run_with
length-run_with c rks counter n ds = length-xor_from _ n ds

module _ (d : Bool) (c rounds k : ℕ) (rks counter : List ℕ) (offset : ℕ) (ds : List ℕ) {before after : List ℕ} {r : Answer}
    (call : RunsWith d c rounds k rks counter offset ds before after r) where
  pub call_known : r.refusal ≡ 0 → Stretched d c rounds k (length counter) offset (length ds) (length before)
  call_known e = stretched d c rounds k (length counter) offset (length ds) (length before) (sym call.refusal ∙ e)

  pub call-served : Stretched d c rounds k (length counter) offset (length ds) (length before) → Served (length ds) (run_with c rks counter offset ds) after r
  call-served h =
      let s = served call (stretched-served d h) in
      record { refusal = s.refusal; count = s.count ∙ h.output; output = s.output }

  -- what a call that answered 0 gives
  pub call-did : r.refusal ≡ 0 → Served (length ds) (run_with c rks counter offset ds) after r
  call-did e = call-served (call_known e)
