-- `zero` of `Fox64` meets its contract: the state of a zero block has zero words.
-- Assumes nothing.
use Rattle.std.proofs.Common.{sym, ap, ◌∙◌}
use Rattle.fox_rounds.specs.declared.state.State.TheVariants.{Of64}
use Rattle.fox_block.proofs.Laws.Block.{zero-64}
use Rattle.fox_engine_block.proofs.blocks.Fox64Cipher.zero.Goals as goal

pub returns : goal.returns
returns c = let e = c.new.ensures in ap Of64 (λ i. record { l = e.0 i; r = e.1 i }) ∙ sym zero-64
