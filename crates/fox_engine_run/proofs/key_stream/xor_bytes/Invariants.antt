-- `key_stream::xor_bytes`: whenever the loop goes on, the iterator has what is left of both lists, and the XOR so far is at the front of the output, whose
-- rest is as it was.
-- Assumes nothing.
use Rattle.std.proofs.Common.{◌≡◌, ◌++◌, ◌≤◌, length, take, drop}
use Rattle.std.specs.Slice.Iter.{iter_rest}
use Rattle.fox_layers.specs.Words.{xor_each}
use Rattle.fox_engine_run.proofs.key_stream.xor_bytes.Given as goal

abbrev pub invariant-loop-i : goal.invariant-loop-i
invariant-loop-i l =
    let i = l.i-iterator.count in
    (iter_rest l.i-iterator.iter.a ≡ drop i l.stream)
    × (iter_rest l.i-iterator.iter.b ≡ drop i l.input)
    × (i ≤ length l.stream)
    × (i ≤ length l.input)
    × (length l.out ≡ length l.input)
    × (l.out ≡ take i (xor_each l.stream l.input) ++ drop i l.initial.out)
