-- A stretch of a run is opened alone: what a call gives for the bytes from k on is that part of the whole run, since each byte of the XOR depends on its own
-- place alone. So a run may be cut anywhere and opened in any stretches, by any engines, and joined again: with any list of round keys, so with those that a
-- prepared key holds, and with those of a key.
-- Assumes nothing.
use mathlib.Core.Path.{◌≡◌, refl, sym, ap, ap₂, ◌∙◌}
use mathlib.Core.Bool.{Bool}
use mathlib.Core.List.{List, [], ◌∷◌, ◌++◌, flatten}
use Prim.Native.Nat.{ℕ, ◌+◌, ◌≤◌}
use native.Mathlib.Nat.{zero-add}
use native.Mathlib.Omega.{arith}
use lib.ListN.{length, take, drop, length-append, length-drop}
use lib.Seq.{length-take-le}
use Rattle.fox_refusals.specs.Refusals.{block_size, Keyed, LongFor}
use Rattle.fox_refusals.specs.Reply.{Served}
use Rattle.fox_refusals.specs.Answer.{Answer}
use Rattle.fox_run.specs.Run.{xor_from, run_with}
use Rattle.fox_run.specs.Promise.{RunsWith}
use Rattle.fox_run.specs.Cuts.{Call, CallsOf, CutOf, none, next, each_alone}
use Rattle.fox_run.proofs.Laws.XorFrom.{xor_from-from, xor_from-append, xor_from-part}
use Rattle.fox_run.proofs.Laws.Served.{call-served, call-did}
use Rattle.fox_run.proofs.Runs.{run-twice}

-- one stretch

pub stretch-of-run : (c : ℕ) (rks counter whole : List ℕ) (k m : ℕ)
    → run_with c rks counter k (take m (drop k whole)) ≡ take m (drop k (run_with c rks counter 0 whole))
unfolding run_with
stretch-of-run c rks counter whole k m = xor_from-from _ (take m (drop k whole)) (sym (zero-add k)) ∙ sym (xor_from-part _ 0 k m whole)

-- any m bytes of a run, at any byte k of it, opened alone by any call, with keys of every length from 0 to 32 bytes; or sealed, with keys of 16 to 32
pub stretch-opened-alone : (d : Bool) (c rounds key_len : ℕ) (rks counter whole : List ℕ) (k m : ℕ) {before after : List ℕ} {r : Answer}
    → Keyed c rounds key_len → LongFor d key_len → length counter ≡ block_size c → length whole ≤ 1073741824 → k + m ≤ length whole → m ≤ 65536
    → length before ≡ m → RunsWith d c rounds key_len rks counter k (take m (drop k whole)) before after r
    → Served m (take m (drop k (run_with c rks counter 0 whole))) after r
stretch-opened-alone d c rounds key_len rks counter whole k m keyed enough size long fits short room call =
    let l : length (take m (drop k whole)) ≡ m = length-take-le m (drop k whole) (rw (length-drop k whole) (omega arith)) in
    let s = call-served d c rounds key_len rks counter k (take m (drop k whole)) call
    (record { keyed = keyed; long = enough; counter = size; short = omega arith; output = room ∙ sym l; end = omega arith }) in
    record { refusal = s.refusal; count = s.count ∙ l; output = s.output ∙ stretch-of-run c rks counter whole k m }

-- a run cut in two

pub run-append : (c : ℕ) (rks counter : List ℕ) (n : ℕ) (xs ys : List ℕ)
    → run_with c rks counter n (xs ++ ys) ≡ run_with c rks counter n xs ++ run_with c rks counter (n + length xs) ys
unfolding run_with
run-append c rks counter n xs ys = xor_from-append _ n xs ys

run-nothing : (c : ℕ) (rks counter : List ℕ) (n : ℕ) → run_with c rks counter n [] ≡ []
unfolding run_with xor_from
run-nothing c rks counter n = refl

-- a run cut anywhere, by any calls that promise `RunsWith`, in either direction

module _ (c rounds key_len : ℕ) (rks counter : List ℕ) (call : Bool → Call)
    (runs : (d : Bool) (n : ℕ) (ds before after : List ℕ) (r : Answer) → call d n ds before after r
    → RunsWith d c rounds key_len rks counter n ds before after r) where
  pub cuts-joined : (d : Bool) {n : ℕ} {inputs outputs : List ℕ} → CallsOf (call d) n inputs outputs → outputs ≡ run_with c rks counter n inputs
  cuts-joined d {n} none = sym (run-nothing c rks counter n)
  cuts-joined d {n} (next ds {inputs = inputs} made e rest) =
      ap₂ (λ (xs ys : List ℕ). xs ++ ys) (call-did d c rounds key_len rks counter n ds (runs d n ds _ _ _ made) e).output (cuts-joined d rest)
      ∙ sym (run-append c rks counter n ds inputs)

  -- the outputs joined are the same, whatever the cuts and the calls
  pub cuts-agree : (d e : Bool) {n : ℕ} {inputs one other : List ℕ} → CallsOf (call d) n inputs one → CallsOf (call e) n inputs other → one ≡ other
  cuts-agree d e a b = cuts-joined d a ∙ sym (cuts-joined e b)

  -- sealed in some stretches and opened in others, or the other way about: the bytes come back
  pub cuts-undone : (d e : Bool) {n : ℕ} {inputs sealed opened : List ℕ} → CallsOf (call d) n inputs sealed → CallsOf (call e) n sealed opened → opened ≡ inputs
  cuts-undone d e {n} {inputs} a b = cuts-joined e b ∙ ap (run_with c rks counter n) (cuts-joined d a) ∙ run-twice c rks counter n inputs

  module _ (d : Bool) (h : Keyed c rounds key_len) (enough : LongFor d key_len) (size : length counter ≡ block_size c) where
    -- all calls on such cuts are served, where the run is not too long
    pub cuts-served : {n : ℕ} {inputs outputs : List ℕ} → n + length inputs ≤ 1073741824 → CutOf (call d) n inputs outputs → CallsOf (call d) n inputs outputs
    cuts-served fits none = none
    cuts-served {n} fits (next ds {inputs = inputs} short room made rest) =
        let l : n + (length ds + length inputs) ≤ 1073741824 = rw (length-append ds inputs) at fits in
        let s = call-served d c rounds key_len rks counter n ds (runs d n ds _ _ _ made)
        (record { keyed = h; long = enough; counter = size; short = short; output = room; end = omega arith }) in
        next ds made s.refusal (cuts-served (omega arith) rest)

    -- so their outputs joined are the run
    pub cuts-opened : {n : ℕ} {inputs outputs : List ℕ} → n + length inputs ≤ 1073741824 → CutOf (call d) n inputs outputs
        → CallsOf (call d) n inputs outputs × (outputs ≡ run_with c rks counter n inputs)
    cuts-opened fits cut = (cuts-served fits cut, cuts-joined d (cuts-served fits cut))

    -- any m bytes of a run that was opened in cuts, opened alone by one more call, are that part of what the cuts gave
    pub stretch-of-cuts : (whole : List ℕ) {outputs : List ℕ} (k m : ℕ) {before after : List ℕ} {r : Answer} → length whole ≤ 1073741824
        → CutOf (call d) 0 whole outputs
        → k + m ≤ length whole → m ≤ 65536 → length before ≡ m → call d k (take m (drop k whole)) before after r → Served m (take m (drop k outputs)) after r
    stretch-of-cuts whole k m long cut fits short room made =
        let end : 0 + length whole ≤ 1073741824 = omega arith in
        let joined = (cuts-opened end cut).1 in
        rw joined (stretch-opened-alone d c rounds key_len rks counter whole k m h enough size long fits short room (runs d k _ _ _ _ made))

-- the pieces of a run opened one by one, on the definitions
pub cut-run : (c : ℕ) (rks counter : List ℕ) (n : ℕ) (pieces : List (List ℕ))
    → flatten (each_alone (run_with c rks counter) n pieces) ≡ run_with c rks counter n (flatten pieces)
unfolding each_alone flatten
cut-run c rks counter n [] = sym (run-nothing c rks counter n)
cut-run c rks counter n (p ∷ ps) =
    ap (λ (xs : List ℕ). run_with c rks counter n p ++ xs) (cut-run c rks counter (n + length p) ps)
    ∙ sym (run-append c rks counter n p (flatten ps))
