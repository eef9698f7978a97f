-- `write::put_close` meets its contract: the room that it passes for the tag is one block.
-- Assumes nothing.
use mathlib.Core.Path.{sym, ◌∙◌}
use native.Mathlib.Omega.{arith}
use lib.Seq.{length-take-le}
use Rattle.fox_tag.proofs.Laws.Parts.{size-most}
use Rattle.fox_run_file_write.proofs.write.put_close.Goals as goal

pub slice_bounds-tag-end : goal.slice_bounds-tag-end
slice_bounds-tag-end c =
    omega (arith, c.block_size-size.ensures, size-most c.args.p.now.cipher)

pub slice_bounds-put_tag-end : goal.slice_bounds-put_tag-end
slice_bounds-put_tag-end c = sym (length-take-le _ _ (omega (arith, c.block_size-size.ensures, size-most c.args.p.now.cipher)))

pub put_tag-requires : goal.put_tag-requires
put_tag-requires c =
    record {
      close_room = c.requires;
      tag_len = length-take-le _ _ (omega (arith, c.block_size-size.ensures, size-most c.args.p.now.cipher)) ∙ c.block_size-size.ensures;
    }
