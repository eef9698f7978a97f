-- `last::xor_into` meets its contract: a turn of the loop XORs one byte more.
-- Assumes nothing.
use Rattle.std.proofs.Common.{◌≡◌, sym, ap, ◌∙◌, ℕ, List, ◌++◌, ◌+◌, ◌≤◌, ◌<◌, length, take, drop, get_or, arith}
use native.Mathlib.Nat.{add-zero}
use lib.ListN.{set, length-set}
use lib.Seq.{take_all}
use Rattle.fox_layers.specs.Words.{◌⊕◌, xor_each}
use Rattle.fox_bytes.proofs.Laws.XorEach.{length-xor_each-min, get_or-xor_each, written_next, written-not-yet}
use Rattle.fox_engine_subkeys.proofs.last.xor_into.Goals as goal

-- one more byte
more : (os part now : List ℕ) (i : ℕ) → i < length part → length part ≤ length os → now ≡ take i (xor_each os part) ++ drop i os
    → set now i (get_or now i 0 ⊕ get_or part i 0) ≡ take (i + 1) (xor_each os part) ++ drop (i + 1) os
more os part now i here room e =
    let long = length-xor_each-min os part in
    let old : get_or now i 0 ≡ get_or os i 0 =
    ap (λ (j : ℕ). get_or now j 0) (sym (add-zero i)) ∙ written-not-yet (xor_each os part) os now i 0 (omega arith) e ∙ ap (λ (j : ℕ). get_or os j 0) (add-zero i) in
    ap (λ (b : ℕ). set now i b)
    (ap (λ (b : ℕ). b ⊕ get_or part i 0) old ∙ sym (get_or-xor_each os part i (omega arith) here))
    ∙ written_next (xor_each os part) os now i (omega arith) (omega arith) e

pub loop-i-preserved : goal.loop-i-preserved
loop-i-preserved c =
    let inv = c.loop-i.invariant in
    let a = c.args in (
      inv.0,
      length-set c.loop-i.block c.loop-i.i _ ∙ inv.1,
      more a.block.now a.part.now c.loop-i.block c.loop-i.i (omega arith) inv.0 inv.2,
    )

pub returns : goal.returns
returns c =
    let inv = c.loop-i.invariant in
    let a = c.args in
    let s = xor_each a.block.now a.part.now in
    let all : c.loop-i.i ≡ length a.part.now = omega arith in
    inv.2
    ∙ ap (λ (n : ℕ). take n s ++ drop n a.block.now) all
    ∙ ap (λ (xs : List ℕ). xs ++ drop (length a.part.now) a.block.now)
    (take_all (length a.part.now) s (omega (arith, length-xor_each-min a.block.now a.part.now)))
