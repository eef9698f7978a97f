-- `nl64::nl64` meets its contract: the state is the hashing layer's, and each round takes the next of the key's words as its round key.
-- Assumes nothing.
use Rattle.std.proofs.Common.{rules, arith}
use Rattle.fox_rounds.specs.Skeleton.{through, seal64}
use Rattle.fox_key_nonlinear.specs.Nonlinear.{number64, NL64}
use Rattle.fox_key_nonlinear.proofs.Laws.KeyWords.{words-two}
use Rattle.fox_key_nonlinear.proofs.nl64.nl64.Goals as goal

pub returns : goal.returns
unfolding number64 through seal64 NL64
returns c =
    rw (
      words-two c.args.d.words (omega arith) (search rules) (search rules),
      ← c.layers64.ensures,
      c.number.ensures,
      c.lmid-2.ensures,
      c.or.ensures,
      c.lmid.ensures,
    )
