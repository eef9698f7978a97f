-- `block::xor_block` meets its contract: the bytes passed on are those of the block from `skip` to its end.
-- Assumes nothing.
use mathlib.Core.Path.{subst}
use mathlib.Core.List.{List}
use Prim.Native.Nat.{ℕ}
use native.Mathlib.Omega.{arith}
use Rattle.fox_run.specs.Parts.{Xored}
use Rattle.fox_server_key.proofs.Laws.Prepares.{size-le}
use Rattle.fox_server_session_block.proofs.Laws.Blocks.{rest-block}
use Rattle.fox_server_session_block.proofs.block.xor_block.Goals as goal

pub slice_bounds-xor_bytes-end : goal.slice_bounds-xor_bytes-end
slice_bounds-xor_bytes-end c =
    omega (arith, size-le _ c.block_size-size.ensures)

pub returns : goal.returns
returns c =
    let a = c.args in
    subst (λ (bs : List ℕ). Xored bs a.input.now a.out.now c.xor_bytes.new.out c.xor_bytes.result)
    (rest-block a.cipher a.block a.skip c.from-bytes.ensures c.block_size-size.ensures (omega arith)) c.xor_bytes.ensures
