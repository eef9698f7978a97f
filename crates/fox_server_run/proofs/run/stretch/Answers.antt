-- `run::stretch` meets its contract: by cases of the cipher, whose block size is that of the counter block.
-- Assumes nothing.
use mathlib.Core.Path.{◌∙◌}
use Rattle.fox_refusals.specs.Refusals.{block_size}
use Rattle.fox_block.proofs.Laws.Block.{size-128}
use Rattle.fox_server_run.proofs.Laws.Stretch.{sized, run-in-64, run-in-128}
use Rattle.fox_server_run.proofs.run.stretch.Goals as goal

pub run_of-requires-else-cipher-eq64 : goal.run_of-requires-else-cipher-eq64
unfolding block_size
run_of-requires-else-cipher-eq64 c = sized c.requires (size-128 _ c.if-cipher-eq64.false)

pub returns-then-cipher-eq64 : goal.returns-then-cipher-eq64
returns-then-cipher-eq64 c =
    let a = c.args in
    c.run_of.ensures
    ∙ run-in-64 a.cipher a.keys.now a.rounds a.counter.now a.n a.input.now c.requires.block c.if-cipher-eq64.true

pub returns-else-cipher-eq64 : goal.returns-else-cipher-eq64
returns-else-cipher-eq64 c =
    let a = c.args in
    c.run_of-else-cipher-eq64.ensures
    ∙ run-in-128 a.cipher a.keys.now a.rounds a.counter.now a.n a.input.now c.requires.block c.if-cipher-eq64.false
