-- `nl64h::nl64h` meets its contract: the state is the hashing layer's, and each round takes the next of the key's words as its round key.
-- Assumes nothing.
use Rattle.std.proofs.Common.{rules, arith, get_or}
use Rattle.fox_rounds.specs.Skeleton.{through, seal64}
use Rattle.fox_key_nonlinear.specs.Nonlinear.{number64, NL64h}
use Rattle.fox_key_nonlinear.proofs.Laws.KeyWords.{words-four}
use Rattle.fox_key_nonlinear.proofs.Laws.Layers.{in_two-four, folded-xor}
use Rattle.fox_key_nonlinear.proofs.nl64h.nl64h.Goals as goal

pub returns : goal.returns
unfolding number64 through seal64 NL64h
returns c =
    let y = c.layers64h.result in
    rw (
      words-four c.args.d.words (omega arith) (search rules) (search rules) (search rules) (search rules),
      ← c.layers64h.ensures,
      in_two-four y (omega arith),
      c.number.ensures,
      c.lmid-4.ensures,
      c.or-3.ensures,
      c.lmid-3.ensures,
      c.or-2.ensures,
      c.lmid-2.ensures,
      c.or.ensures,
      c.lmid.ensures,
      c.folded.ensures,
      c.folded-2.ensures,
      folded-xor (get_or y 0 0) (get_or y 2 0),
      folded-xor (get_or y 1 0) (get_or y 3 0),
    )
