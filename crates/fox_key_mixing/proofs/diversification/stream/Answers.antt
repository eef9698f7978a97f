-- `diversification::stream` meets its contract: the four words and the byte that is left are eleven successive values, cut at other places.
-- Assumes nothing.
use Rattle.fox_key_mixing.specs.KeyBytes.{word_bytes}
use Rattle.fox_key_register.specs.Register.{iterate}
use Rattle.fox_key_mixing.proofs.Laws.Stream.{stream-row}
use Rattle.fox_key_mixing.proofs.diversification.stream.Goals as goal

pub returns : goal.returns
unfolding word_bytes iterate
returns c =
    rw (
      c.word_332.ensures,
      c.word_1331.ensures,
      c.word_233.ensures,
      c.word_332-2.ensures,
      c.clocked-r10.ensures,
      c.clocked-r9.ensures,
      c.clocked-r8.ensures,
      c.clocked-r7.ensures,
      c.clocked-r6.ensures,
      c.clocked-r5.ensures,
      c.clocked-r4.ensures,
      c.clocked-r3.ensures,
      c.clocked-r2.ensures,
      c.clocked-r1.ensures,
    )
    (stream-row c.args.reg)
