-- `take::of_tag` meets its contract: the line `close` is the file's end, so the stored tag has the cipher's size, and the test meets no refusal but that the
-- tag differs.
-- Assumes nothing.
use mathlib.Core.Path.{sym, ap}
use Prim.Native.Nat.{ℕ, ◌-◌}
use native.Mathlib.Omega.{arith}
use lib.ListN.{length}
use lib.Seq.{length-take-le}
use Rattle.fox_text.specs.Ascii.{codes, ascii}
use Rattle.fox_run_file.specs.Format.{close_name}
use Rattle.fox_run_file.proofs.Laws.Lines.{block-small}
use Rattle.fox_run_file.proofs.Laws.Close.{closed, tag-told}
use Rattle.fox_server_key.specs.Prepared.{round_keys_in}
use Rattle.fox_run_file_take_up.proofs.take.of_tag.Goals as goal

pub overflow_sub-before : goal.overflow_sub-before
overflow_sub-before c = omega (arith, (closed _ _ _ c.requires.1).room, c.close_size-close.ensures)

pub block_line-requires : goal.block_line-requires
block_line-requires c = block-small _

-- the tag's buffer has room for a block
pub slice_bounds-tag-end : goal.slice_bounds-tag-end
slice_bounds-tag-end c = omega (arith, c.block_size-size.ensures, block-small c.args.p.cipher, c.block_line.auto.out)

pub slice_bounds-test-end-2 : goal.slice_bounds-test-end-2
slice_bounds-test-end-2 c = sym (length-take-le _ _ (omega (arith, c.block_size-size.ensures, block-small c.args.p.cipher, c.block_line.auto.out)))

pub returns : goal.returns
unfolding close_name ascii codes
returns c =
    let a = c.args in
    let pre = c.requires in
    tag-told a.p.cipher a.p.rounds a.p.key_len (round_keys_in a.p) a.file.now pre.0 pre.1
    (ap (λ (n : ℕ). length a.file.now - n) c.close_size-close.ensures) c.block_size-size.ensures (block-small _)
    (rw c.rest.ensures at c.block_line.ensures) c.test.ensures
