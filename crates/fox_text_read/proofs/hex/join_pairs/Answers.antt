-- `hex::join_pairs` meets its contract: whenever the next pair is taken, storing the pairs that are left from here on gives what storing all of them into the
-- first output gives.
-- Assumes nothing.
use Rattle.std.proofs.Common.{refl, sym, ◌∙◌, arith, length-set}
use Rattle.std.specs.Slice.Iter.{chunks_exact_rest}
use Rattle.fox_text.proofs.Laws.Pairs.{hex-pair, pair-stored, pairs-done}
use Rattle.fox_text_read.proofs.hex.join_pairs.Goals as goal

pub loop-i-init : goal.loop-i-init
loop-i-init c =
    let same = c.into_iter-i-iterator.ensures.into_iter_gives in
    let e = c.enumerate-i-items.ensures in
    let first = c.chunks_exact.ensures in
    record {
      pairs = rw (same, e.source, first.size) refl;
      hex = rw (same, e.source, first.rest) c.requires.hex;
      room = rw (same, e.source, e.count, first.rest) (omega (arith, c.requires.room));
      bytes = rw (same, e.source, e.count, first.rest) refl;
    }

pub nibble-requires : goal.nibble-requires
nibble-requires c =
    let (cut, size) = c.in-Some.ensures.steps.0.1 in
    (hex-pair c.in-Some.pair.now (chunks_exact_rest c.next.new.self.iter) (size ∙ c.loop-i.invariant.pairs) cut c.loop-i.invariant.hex).first

pub overflow_mul-out : goal.overflow_mul-out
overflow_mul-out c =
    let (cut, size) = c.in-Some.ensures.steps.0.1 in
    let pair = hex-pair c.in-Some.pair.now (chunks_exact_rest c.next.new.self.iter) (size ∙ c.loop-i.invariant.pairs) cut c.loop-i.invariant.hex in
    omega (arith, c.nibble.ensures, pair.high)

pub nibble-requires-in-loop-i : goal.nibble-requires-in-loop-i
nibble-requires-in-loop-i c =
    let (cut, size) = c.in-Some.ensures.steps.0.1 in
    (hex-pair c.in-Some.pair.now (chunks_exact_rest c.next.new.self.iter) (size ∙ c.loop-i.invariant.pairs) cut c.loop-i.invariant.hex).second

pub overflow_add-out : goal.overflow_add-out
overflow_add-out c =
    let (cut, size) = c.in-Some.ensures.steps.0.1 in
    let pair = hex-pair c.in-Some.pair.now (chunks_exact_rest c.next.new.self.iter) (size ∙ c.loop-i.invariant.pairs) cut c.loop-i.invariant.hex in
    omega (arith, c.nibble.ensures, c.nibble-in-loop-i.ensures, pair.high, pair.low)

pub bounds-out-i : goal.bounds-out-i
bounds-out-i c =
    let (cut, size) = c.in-Some.ensures.steps.0.1 in
    let pair = hex-pair c.in-Some.pair.now (chunks_exact_rest c.next.new.self.iter) (size ∙ c.loop-i.invariant.pairs) cut c.loop-i.invariant.hex in
    omega (arith, c.in-Some.ensures.steps.1, c.loop-i.invariant.room, pair.long)

pub loop-i-preserved : goal.loop-i-preserved
loop-i-preserved c =
    let steps = c.in-Some.ensures.steps in
    let (cut, size) = steps.0.1 in
    let inv = c.loop-i.invariant in
    let two = size ∙ inv.pairs in
    let pair = hex-pair c.in-Some.pair.now (chunks_exact_rest c.next.new.self.iter) two cut inv.hex in
    record {
      pairs = steps.0.0 ∙ inv.pairs;
      hex = pair.others;
      room = rw length-set (omega (arith, steps.2, inv.room, pair.long));
      bytes = rw (steps.1, steps.2) (pair-stored _ _ _ _ _ _ two cut c.nibble.ensures c.nibble-in-loop-i.ensures ∙ inv.bytes);
    }

pub returns : goal.returns
returns c =
    let inv = c.loop-i.invariant in
    let few = c.in-None.ensures.steps.0.1.0 in
    sym (pairs-done c.loop-i.out _ c.loop-i.i-iterator.count (omega (arith, few, inv.pairs))) ∙ inv.bytes
