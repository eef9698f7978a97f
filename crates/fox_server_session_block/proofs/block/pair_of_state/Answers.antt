-- `block::pair_of_state` meets its contract: the state's bytes are the first of 16, which the two words hold.
-- Assumes nothing.
use mathlib.Core.Path.{sym, ap, ◌∙◌}
use native.Mathlib.Omega.{arith}
use lib.ListN.{length, take}
use lib.Seq.{length-take-le, take_at}
use Rattle.fox_rounds.specs.Skeleton.{size}
use Rattle.fox_block.proofs.Laws.Block.{length-bytes}
use Rattle.fox_server_session_block.proofs.Laws.Blocks.{state-small}
use Rattle.fox_server_session_block.proofs.block.pair_of_state.Goals as goal

pub slice_bounds-bytes-end : goal.slice_bounds-bytes-end
slice_bounds-bytes-end c = omega (arith, c.size-size.ensures, state-small c.args.x)

pub slice_bounds-write-end : goal.slice_bounds-write-end
slice_bounds-write-end c = sym (length-take-le _ _ (omega (arith, c.size-size.ensures, state-small c.args.x)))

pub write-requires : goal.write-requires
write-requires c = length-take-le _ _ (omega (arith, c.size-size.ensures, state-small c.args.x)) ∙ c.size-size.ensures

pub returns : goal.returns
returns c =
    let x = c.args.x in
    ap (take (size x)) c.from.ensures
    ∙ take_at c.write.new.out _ (size x) (ap length c.write.ensures ∙ length-bytes x) ∙ c.write.ensures
