-- `last::double` meets its contract: whenever the loop's test is reached, the first i bytes are those of the moved block, and the rest is as it was; the last
-- byte takes in the reduction.
-- Assumes nothing.
use mathlib.Core.Path.{◌≡◌, refl, sym, ap, ap₂, ◌∙◌}
use mathlib.Core.List.{List, ◌++◌}
use Prim.Native.Nat.{ℕ, suc, ◌+◌, ◌-◌, ◌*◌, ◌/◌, ◌%◌, ◌≤◌, ◌<◌}
use native.Mathlib.Nat.{add-zero}
use native.Mathlib.Numerals.{add-one}
use native.Mathlib.Omega.{arith}
use lib.ListN.{length, take, drop, get_or, set, length-set}
use borrow.Author.Rules.{rules}
use Rattle.fox_layers.specs.Words.{◌⊕◌, Bytes}
use Rattle.fox_bytes.proofs.Laws.XorEach.{written_next, written-not-yet, written_last}
use Rattle.fox_tag.specs.Cmac.{reduction, doubled}
use Rattle.fox_tag.proofs.Laws.Doubling.{shifted, length-shifted, shifted_at, doubled-done}
use Rattle.fox_engine_subkeys.proofs.last.double.Statement.{statement}
use Rattle.fox_engine_subkeys.proofs.last.double.Tie as tie

abbrev invariant-loop : tie.invariant-loop-i
invariant-loop block₀ last top i₀ block i =
    (i ≤ last) × (length block₀ ≡ suc last) × (length block ≡ length block₀) × (block ≡ take i (shifted block₀ 0) ++ drop i block₀)

abbrev decreases-loop : tie.decreases-loop-i
decreases-loop block₀ last top i₀ block i = last - i

-- one more byte
more : (os now : List ℕ) (n i : ℕ) → i < n → length os ≡ suc n → now ≡ take i (shifted os 0) ++ drop i os
    → set now i (get_or now i 0 % 128 * 2 + get_or now (i + 1) 0 / 128) ≡ take (i + 1) (shifted os 0) ++ drop (i + 1) os
more os now n i here long e =
    let s = shifted os 0 in
    let size = length-shifted os 0 in
    let this : get_or now i 0 ≡ get_or os i 0 =
    ap (λ (j : ℕ). get_or now j 0) (sym (add-zero i)) ∙ written-not-yet s os now i 0 (omega arith) e ∙ ap (λ (j : ℕ). get_or os j 0) (add-zero i) in
    let next = written-not-yet s os now i 1 (omega arith) e ∙ ap (λ (j : ℕ). get_or os j 0) (add-one i) in
    ap (λ (b : ℕ). set now i b) (ap₂ (λ (x y : ℕ). x % 128 * 2 + y / 128) this next ∙ sym (shifted_at os 0 i (omega arith)))
    ∙ written_next s os now i (omega arith) (omega arith) e

-- the last byte
last_byte : (os now : List ℕ) (n i r : ℕ) → Bytes os → length os ≡ suc n → i ≡ n → now ≡ take i (shifted os 0) ++ drop i os
    → r ≡ get_or os 0 0 / 128 * reduction (length os) → r < 256 → set now n (get_or now n 0 % 128 * 2 ⊕ r) ≡ doubled (length os) os
last_byte os now n i r h long done e er small =
    let s = shifted os 0 in
    let size = length-shifted os 0 in
    let here : now ≡ take n s ++ drop n os = e ∙ ap (λ (j : ℕ). take j s ++ drop j os) done in
    let this : get_or now n 0 ≡ get_or os n 0 =
    ap (λ (j : ℕ). get_or now j 0) (sym (add-zero n)) ∙ written-not-yet s os now n 0 (omega arith) here ∙ ap (λ (j : ℕ). get_or os j 0) (add-zero n) in
    let is : r ≡ get_or os 0 0 / 128 * reduction (suc n) = er ∙ ap (λ (k : ℕ). get_or os 0 0 / 128 * reduction k) long in
    ap₂ (λ (x q : ℕ). set now n (x % 128 * 2 ⊕ q)) this is
    ∙ written_last s os now n _ (size ∙ long) long here
    ∙ sym (doubled-done n os h long (rw is at small))
    ∙ ap (λ (k : ℕ). doubled k os) (sym long)

loop-holds : tie.Need-loop-i-init invariant-loop decreases-loop
loop-holds c = (search rules, search rules, refl, refl)

add-block-2 : tie.Need-overflow_add-block-in-loop-i invariant-loop decreases-loop
add-block-2 c = omega (arith, c.slice_known-in-loop-i-2-1.given (c.before.before.before.loop-i.i + 1))

loop-again : tie.Need-loop-i-preserved invariant-loop decreases-loop
loop-again c =
    let at = c.before.before.before in
    let inv = at.loop-i.invariant in
    let a = at.before.before.before.args in (
      search rules,
      inv.1,
      length-set at.loop-i.block at.loop-i.i _ ∙ inv.2,
      more a.block.now at.loop-i.block _ at.loop-i.i (search rules) inv.1 inv.3,
    )

reduced-requires : tie.Need-reduced-requires invariant-loop decreases-loop
reduced-requires c κs = omega (arith, c.before.before.before.slice_known-2-1.given 0)

returns : tie.Need-returns invariant-loop decreases-loop
returns c =
    let at = c.before.before.before in
    let inv = at.loop-i.invariant in
    let start = at.before.before in
    let a = start.before.args in
    last_byte a.block.now at.loop-i.block _ at.loop-i.i c.reduced.result (λ i. (start.slice_known-1.given i).fits) inv.1 (search rules) inv.3
    (c.reduced.ensures ∙ ap (λ (k : ℕ). get_or a.block.now 0 0 / 128 * reduction k) inv.2) (search rules)

pub double_spec : {M : Type 1} → statement M
double_spec =
    tie.close (tie.spec invariant-loop decreases-loop (λ c. search rules) (λ c. search rules) loop-holds (λ c. search rules) (λ c. search rules) (λ c. search rules)
    (λ c. search rules) add-block-2 (λ c. search rules) (λ c. search rules) (λ c. search rules) loop-again (λ c. search rules)
    (λ c. search rules) reduced-requires (λ c. search rules) (λ c. search rules) returns)
