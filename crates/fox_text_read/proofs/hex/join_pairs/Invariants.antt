-- `hex::join_pairs` meets its contract: whenever the next pair is taken, storing the pairs that are left from here on gives what storing all of them into the
-- first output gives.
-- Assumes nothing.
use Rattle.std.proofs.Common.{◌≡◌, ◌+◌, ◌*◌, ◌≤◌, length, true}
use Rattle.std.proofs.lemmas.List.Edits.{sets}
use Rattle.std.specs.Slice.Iter.{chunks_exact_rest, chunks_exact_size}
use Rattle.fox_text.specs.Hex.{all_hex, pairs_of}
use Rattle.fox_text_read.proofs.hex.join_pairs.Given as goal

abbrev pub invariant-loop-i : goal.invariant-loop-i
invariant-loop-i l =
    let left = chunks_exact_rest l.i-iterator.iter in
    record {
      pairs : chunks_exact_size l.i-iterator.iter ≡ 2;
      hex : all_hex left ≡ true;
      room : l.i-iterator.count * 2 + length left ≤ length l.out * 2;
      bytes : sets l.out l.i-iterator.count (pairs_of left) ≡ sets l.initial.out 0 (pairs_of l.ds);
    }
