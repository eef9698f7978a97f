-- `key_stream::xor_bytes` meets its contract: a turn of the loop writes one byte more of the XOR, and the loop ends where the shorter list does.
-- Assumes nothing.
use Rattle.std.proofs.Common.{◌≡◌, refl, sym, ap, ap₂, ◌∙◌, ℕ, List, [], ◌∷◌, ◌++◌, ◌+◌, ◌≤◌, ◌<◌, length, drop, get_or, arith}
use Rattle.std.proofs.lemmas.Slice.Zip.{either_empty_from_Zip}
use Prim.Native.Nat.{suc}
use lib.ListN.{set, length-set, length-drop}
use lib.Seq.{drop-cons, take_all}
use lib.Bits.{bit_xor}
use mathlib.Core.Logic.{inl, inr}
use Rattle.fox_layers.specs.Words.{xor_each}
use Rattle.fox_bytes.proofs.Laws.XorEach.{length-xor_each-min, get_or-xor_each, written_next}
use Rattle.fox_engine_run.proofs.key_stream.xor_bytes.Goals as goal

-- what is left of a list from its place i on: its next element, and the rest
left-next : (i : ℕ) (xs ys : List ℕ) (x : ℕ) → drop i xs ≡ x ∷ ys → (i < length xs) × (x ≡ get_or xs i 0) × (ys ≡ drop (i + 1) xs)
left-next i xs ys x e =
    let more : i < length xs = omega (arith, length-drop i xs, ap length e) in
    let both = sym e ∙ drop-cons xs i 0 more in
    (more, ap (λ (l : List ℕ). get_or l 0 0) both, ap (drop 1) both ∙ ap (λ (j : ℕ). drop j xs) {x = suc i} {y = i + 1} (omega arith))

left-none : (i : ℕ) (xs : List ℕ) → drop i xs ≡ [] → length xs ≤ i
left-none i xs e = omega (arith, length-drop i xs, ap length e)

pub loop-i-preserved : goal.loop-i-preserved
loop-i-preserved c =
    let a = c.args.stream.now in
    let b = c.args.input.now in
    let i = c.loop-i.i-iterator.count in
    let inv = c.loop-i.invariant in
    let goes = c.in-Some.ensures.steps in
    let one = left-next i a _ _ (sym inv.0 ∙ goes.0.0) in
    let two = left-next i b _ _ (sym inv.1 ∙ goes.0.1) in
    let here : i < length (xor_each a b) = omega (arith, length-xor_each-min a b, one.0, two.0) in
    let room : length (xor_each a b) ≤ length c.args.out.now = omega (arith, length-xor_each-min a b, c.requires) in
    let byte : bit_xor c.in-Some.a.now c.in-Some.b.now ≡ get_or (xor_each a b) i 0 =
    ap₂ bit_xor one.1 two.1 ∙ sym (get_or-xor_each a b i one.0 two.0) in
    let next : c.next.new.self.count ≡ i + 1 = goes.2 in
    rw next (
      one.2,
      two.2,
      omega (arith, one.0),
      omega (arith, two.0),
      length-set c.loop-i.out _ _ ∙ inv.4,
      ap₂ (set c.loop-i.out) goes.1 byte ∙ written_next (xor_each a b) c.args.out.now c.loop-i.out i here room inv.5,
    )

pub returns : goal.returns
returns c =
    let a = c.args.stream.now in
    let b = c.args.input.now in
    let i = c.loop-i.i-iterator.count in
    let inv = c.loop-i.invariant in
    let end = either_empty_from_Zip c.loop-i.i-iterator.iter c.next.new.self.iter _ refl c.in-None.ensures.steps.0 in
    let all : i ≡ length (xor_each a b) =
    elim end [
      | inl none ↦ omega (arith, length-xor_each-min a b, left-none i a (sym inv.0 ∙ none))
      | inr none ↦ omega (arith, length-xor_each-min a b, left-none i b (sym inv.1 ∙ none))
    ] in
    let count : c.min.result ≡ i = c.min.ensures ∙ sym (length-xor_each-min a b) ∙ sym all in
    record {
      count = count ∙ all;
      output = inv.5 ∙ ap₂ (λ (l : List ℕ) (n : ℕ). l ++ drop n c.args.out.now) (take_all i (xor_each a b) (omega (arith, all))) (sym count);
    }
