-- `block::read_block` meets its contract: the block's bytes are the first of 16, which the two words hold.
-- Assumes nothing.
use Rattle.std.proofs.Common.{length, sym, ap, ◌∙◌}
use lib.Seq.{length-take-le, take_at}
use Rattle.fox_server_key.proofs.Laws.Prepares.{size-le}
use Rattle.fox_server_session_block.proofs.Laws.Blocks.{front-block}
use Rattle.fox_server_session_block.proofs.block.read_block.Goals as goal

pub slice_bounds-bytes-end : goal.slice_bounds-bytes-end
slice_bounds-bytes-end c = size-le _ c.block_size-size.ensures

pub slice_bounds-copy_from_slice-end : goal.slice_bounds-copy_from_slice-end
slice_bounds-copy_from_slice-end c = sym (length-take-le _ _ (size-le _ c.block_size-size.ensures))

pub copy_from_slice-requires : goal.copy_from_slice-requires
copy_from_slice-requires c = length-take-le _ _ (size-le _ c.block_size-size.ensures) ∙ c.block_size-size.ensures ∙ sym c.requires

pub returns : goal.returns
returns c =
    let a = c.args in
    let copied = c.copy_from_slice.ensures.after in
    sym (front-block a.cipher c.from.result (sym c.from.ensures) c.block_size-size.ensures)
    ∙ take_at c.copy_from_slice.new.self _ c.block_size-size.result (ap length copied ∙ c.requires ∙ sym c.block_size-size.ensures) ∙ copied
