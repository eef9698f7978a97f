-- `step::further` meets its contract: whole blocks are a stretch of the run, and the rest lies in the block that the next position is in, since the stretch
-- begins a block.
-- Assumes nothing.
use mathlib.Core.Path.{refl}
use native.Mathlib.Nat.{mod-le}
use native.Mathlib.Omega.{arith}
use lib.ListN.{length-take, length-drop}
use Rattle.fox_server_key.specs.Prepared.{held_keys}
use Rattle.fox_session.specs.InUse.{held_block}
use Rattle.fox_server_session_block.proofs.Laws.Blocks.{size-some}
use Rattle.fox_server_session_step.proofs.Laws.Steps.{run-further}
use Rattle.fox_server_session_step.proofs.step.further.Goals as goal

pub nonzero_rem-whole : goal.nonzero_rem-whole
nonzero_rem-whole c = size-some c.args.run.now.cipher c.block_size.ensures

pub overflow_sub-whole : goal.overflow_sub-whole
overflow_sub-whole c = mod-le _ _

pub slice_bounds-whole_blocks-end : goal.slice_bounds-whole_blocks-end
slice_bounds-whole_blocks-end c = simp length-take (omega arith)

pub slice_bounds-whole_blocks-end-3 : goal.slice_bounds-whole_blocks-end-3
slice_bounds-whole_blocks-end-3 c = simp length-take (omega arith)

pub whole_blocks-requires : goal.whole_blocks-requires
whole_blocks-requires c = record { within = simp length-take (omega arith); out_len = simp length-take (omega arith) }

pub xor_block-requires : goal.xor_block-requires
xor_block-requires c =
    (size-some c.args.run.now.cipher refl, simp (length-take, length-drop) (omega arith))

pub returns : goal.returns
returns c =
    let a = c.args in
    let run = a.run.now in
    let pre = c.requires in
    record {
      bytes = run-further run.cipher (held_keys run.cipher run.keys.now run.rounds) (held_block run.cipher run.counter) a.n _ c.block_at-block.result
          a.input.now a.out.now _ c.block_size.ensures refl pre.first pre.within pre.out_len c.whole_blocks.ensures c.block_at-block.ensures
          c.xor_block.ensures;
      block = c.block_at-block.ensures;
    }
