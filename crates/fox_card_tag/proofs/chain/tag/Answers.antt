-- `chain::tag` meets its contract: the last block with its subkey, chained after all others.
-- Assumes nothing.
use mathlib.Core.Path.{ap, ◌∙◌}
use mathlib.Core.List.{List}
use Prim.Native.Nat.{ℕ}
use Rattle.fox_layers.specs.Words.{xor_each}
use Rattle.fox_key_schedule.specs.Schedule.{round_keys}
use Rattle.fox_refusals.specs.Refusals.{block_size}
use Rattle.fox_block.specs.Block.{seal_with}
use Rattle.fox_tag.specs.Cmac.{blocks_before}
use Rattle.fox_tag.specs.Tag.{chain_of}
use Rattle.fox_tag.proofs.Laws.ByStates.{last-chained}
use Rattle.fox_card_tag.proofs.chain.tag.Goals as goal

pub returns : goal.returns
returns c =
    let a = c.args in
    let rks = round_keys a.cipher a.rounds a.key.now in
    c.chain.ensures
    ∙ ap (λ (l : List ℕ). seal_with a.cipher rks (xor_each (chain_of a.cipher rks a.message.now (blocks_before (block_size a.cipher) a.message.now)) l))
    c.last_into.ensures
    ∙ last-chained a.cipher rks a.message.now
