-- The loop of `bytes::store_all`: the first words are written, and the output behind them is as it came.
-- Assumes nothing.
use Rattle.std.proofs.Common.{◌≡◌, ◌++◌, ◌*◌, take, drop}
use Rattle.fox_bytes.specs.WordBytes.{word_bytes}
use Rattle.fox_bytes.proofs.bytes.store_all.Given as goal

abbrev pub invariant-loop-i : goal.invariant-loop-i
invariant-loop-i g l = l.out ≡ word_bytes 4 (take l.i l.fn.words) ++ drop (l.i * 4) l.initial.out
