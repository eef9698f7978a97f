-- `nl128::nl128` meets its contract: the state is the hashing layer's, and each round takes the next two of the key's words as one round key.
-- Assumes nothing.
use Rattle.std.proofs.Common.{rules, arith}
use Rattle.fox_rounds.specs.Skeleton.{through, seal128}
use Rattle.fox_key_nonlinear.specs.Nonlinear.{number128, NL128}
use Rattle.fox_key_nonlinear.proofs.Laws.KeyWords.{pairs-four}
use Rattle.fox_key_nonlinear.proofs.nl128.nl128.Goals as goal

pub returns : goal.returns
unfolding number128 through seal128 NL128
returns c =
    rw (
      pairs-four c.args.d.words (omega arith) (search rules) (search rules) (search rules) (search rules),
      ← c.layers128.ensures,
      c.pair.ensures,
      c.pair-2.ensures,
      c.elmid-x.ensures,
      c.or.ensures,
      c.elmid.ensures,
      c.state-x.ensures,
    )
