-- `Run::block_at` meets its contract: the first counter block is read as a state, counted on to the position's block, and sealed. At the run's end there is
-- nothing to show.
-- Assumes nothing.
use mathlib.Core.Path.{sym}
use native.Mathlib.Nat.{div-le_self}
use native.Mathlib.Omega.{arith}
use lib.Seq.{length-take-le}
use Rattle.fox_server_key.specs.Prepared.{held_keys}
use Rattle.fox_server_key.proofs.Laws.Prepares.{size-le}
use Rattle.fox_server_session_block.proofs.Laws.Blocks.{size-some, front_length, block-sealed}
use Rattle.fox_server_session_block.proofs.run.Run.block_at.Goals as goal

pub returns-then-position-eq1073741824 : goal.returns-then-position-eq1073741824
returns-then-position-eq1073741824 c = λ h. absurd (omega (arith, c.if-position-eq1073741824.true))

pub slice_bounds-bytes-end : goal.slice_bounds-bytes-end
slice_bounds-bytes-end c = omega (arith, size-le _ c.block_size-size.ensures)

pub slice_bounds-read-end : goal.slice_bounds-read-end
slice_bounds-read-end c = sym (length-take-le _ _ (omega (arith, size-le _ c.block_size-size.ensures)))

pub read-first-requires : goal.read-first-requires
read-first-requires c =
    let a = c.args in
    front_length a.self.now.cipher a.self.now.counter c.from-bytes.ensures c.block_size-size.ensures

pub nonzero_div-position : goal.nonzero_div-position
nonzero_div-position c = size-some _ c.block_size-size.ensures

pub overflow_cast-position : goal.overflow_cast-position
overflow_cast-position c =
    record { fits = omega (arith, div-le_self c.args.position c.block_size-size.result, c.requires) }

pub returns : goal.returns
returns c =
    let a = c.args in
    λ h. block-sealed a.self.now.cipher (held_keys a.self.now.cipher a.self.now.keys.now a.self.now.rounds) a.position a.self.now.counter c.pair_of_state.result c.block_size-size.ensures
    c.from-bytes.ensures c.read-first.ensures c.counted-here.ensures c.sealed-block.ensures c.pair_of_state.ensures
