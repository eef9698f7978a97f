-- `zero` of `Fox128` meets its contract: the state of a zero block has zero words.
-- Assumes nothing.
use Rattle.std.proofs.Common.{sym, ap, ◌∙◌}
use Rattle.fox_rounds.specs.declared.state.State.TheVariants.{Of128}
use Rattle.fox_block.proofs.Laws.Block.{zero-128}
use Rattle.fox_engine_block.proofs.blocks.Fox128Cipher.zero.Goals as goal

pub returns : goal.returns
returns c = let e = c.new.ensures in ap Of128 (λ i. record { ll = e.0 i; lr = e.1 i; rl = e.2 i; rr = e.3 i }) ∙ sym zero-128
