-- `Basis::renew` meets its contract: a position with the same block number is in the same block, and of any other the block is sealed.
-- Assumes nothing.
use Rattle.fox_server_session_block.proofs.Laws.Blocks.{size-some}
use Rattle.fox_server_session_step.proofs.Laws.Steps.{renews-same, renews-new}
use Rattle.fox_server_session_step.proofs.step.Basis.renew.Goals as goal

pub nonzero_div-to : goal.nonzero_div-to
nonzero_div-to c = size-some _ c.block_size-size.ensures

pub nonzero_div-here : goal.nonzero_div-here
nonzero_div-here c = size-some _ c.block_size-size.ensures

pub returns-then-to-size : goal.returns-then-to-size
returns-then-to-size c =
    let a = c.args in
    renews-same a.self.now _ a.here a.to c.block_size-size.ensures c.if-to-size.true

pub returns : goal.returns
returns c =
    let a = c.args in
    let run = c.run.ensures in
    renews-new a.self.now _ a.here a.to c.block_at.result (rw (run.cipher, run.keys, run.rounds, run.counter) at c.block_at.ensures)
