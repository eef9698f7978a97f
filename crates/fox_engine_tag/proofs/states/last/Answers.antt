-- `states::last` meets its contract: the block's bytes are made the last block with its subkey, and read again.
-- Assumes nothing.
use Rattle.std.proofs.Common.{ap, ap₂, ◌∙◌, ℕ, List, arith}
use Rattle.fox_rounds.proofs.Laws.Blocks.{size-some}
use Rattle.fox_block.specs.Block.{state}
use Rattle.fox_tag.specs.Cmac.{keyed_block}
use Rattle.fox_engine_tag.proofs.states.last.Goals as goal

pub last_block-requires : goal.last_block-requires
last_block-requires g c =
    let long = c.laid-block.ensures.long in
    (omega (arith, long, size-some (g.B.Block.state c.args.x)), omega (arith, long, c.requires))

pub returns : goal.returns
returns g c =
    let laid = c.laid-block.ensures in
    c.read.ensures
    ∙ ap (state g.B.Cipher.CIPHER) (c.last_block.ensures ∙ ap₂ (λ (k : ℕ) (block : List ℕ). keyed_block k block c.args.part.now) laid.long laid.of)
