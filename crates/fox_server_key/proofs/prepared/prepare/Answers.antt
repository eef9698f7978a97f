-- Past the refusals the rounds fit a byte, and the words are those of the key.
-- Assumes nothing.
use Rattle.std.proofs.Common.{sym, arith}
use Rattle.fox_refusals.proofs.Laws.Refusals.{keyed}
use Rattle.fox_server_key.specs.Prepared.{prepared_key}
use Rattle.fox_server_key.proofs.Laws.Prepares.{served-key}
use Rattle.fox_server_key.proofs.prepared.prepare.Goals as goal

pub overflow_cast-rounds : goal.overflow_cast-rounds
overflow_cast-rounds c =
    let known = keyed _ _ _ (sym c.in_ok-for_key.ensures) in
    record { fits = omega (arith, known.high) }

pub words-requires : goal.words-requires
words-requires c =
    let known = keyed _ _ _ (sym c.in_ok-for_key.ensures) in
    (omega (arith, known.low), known.key)

pub returns : goal.returns
unfolding prepared_key
returns c = served-key _ _ _ _ (sym c.in_ok-for_key.ensures) c.words.ensures
