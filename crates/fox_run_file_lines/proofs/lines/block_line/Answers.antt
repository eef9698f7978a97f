-- `lines::block_line` meets its contract: pairs were read, and their number is compared with the block's size.
-- Assumes nothing.
use Rattle.std.proofs.Common.{refl, ◌∙◌}
use Rattle.fox_text.proofs.Laws.Fields.{pairs-counted}
use Rattle.fox_run_file.specs.Says.{is_block_line, block_in}
use Rattle.fox_run_file_lines.proofs.lines.block_line.Goals as goal

pub returns : goal.returns
unfolding is_block_line block_in
returns c =
    let size = c.block_size-size.ensures in
    let read = c.pairs_line.ensures in
    record { right = c.eq.ensures ∙ pairs-counted c.block_size-size.result read ∙ rw size refl; bytes = rw (← size) read.stored.bytes }
