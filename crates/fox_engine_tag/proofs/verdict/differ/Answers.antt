-- `verdict::differ` meets its contract: a turn of the loop looks at one byte more of both.
-- Assumes nothing.
use Rattle.std.proofs.Common.{◌≡◌, refl, ap₂, ◌∙◌, ℕ, [], ◌∷◌, ◌++◌, ◌+◌, length, arith, rules}
use Rattle.std.proofs.lemmas.Slice.Zip.{zip_turn}
use lib.Bits.{bit_or, bit_xor}
use lib.Dec.{eqb}
use lib.ListN.{length-append}
use Rattle.fox_refusals.specs.Refusals.{same}
use Rattle.fox_engine_tag.proofs.Laws.Same.{same_next}
use Rattle.fox_engine_tag.proofs.verdict.differ.Goals as goal

pub loop-r-init : goal.loop-r-init
unfolding same
loop-r-init c = (omega arith, refl)

pub loop-r-preserved : goal.loop-r-preserved
loop-r-preserved c =
    let a = c.args.right.now in
    let b = c.args.stored.now in
    let inv = c.loop-r.invariant in
    let i = length c.loop-r.yielded in
    let turn =
    zip_turn a b c.loop-r.yielded c.into_iter-r-iterator.result c.loop-r.r-iterator c.next.new.self _ (search rules) (search rules) c.loop-r.yielded_by
    (c.in-Some.r, c.in-Some.s) refl c.in-Some.ensures.steps in
    let more : length (c.loop-r.yielded ++ (c.in-Some.r, c.in-Some.s) ∷ []) ≡ i + 1 =
    length-append c.loop-r.yielded ((c.in-Some.r, c.in-Some.s) ∷ []) in
    rw more (
      omega (arith, turn.0),
      ap₂ (λ (m n : ℕ). eqb (bit_or c.loop-r.bits (bit_xor m n)) 0) (turn.2 0) (turn.3 0) ∙ same_next a b i c.loop-r.bits turn.0 c.requires inv.1,
    )
