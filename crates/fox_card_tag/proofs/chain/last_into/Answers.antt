-- `chain::last_into` meets its contract: the sealed zero block is made the last block with its subkey.
-- Assumes nothing.
use mathlib.Core.Path.{sym, ap, ap₂, ◌∙◌}
use mathlib.Core.Bool.{true}
use mathlib.Core.List.{List}
use Prim.Native.Nat.{ℕ}
use lib.ListN.{length}
use Rattle.fox_rounds.specs.Skeleton.{size, turned}
use Rattle.fox_rounds.specs.declared.state.State.{State}
use Rattle.fox_key_schedule.proofs.Laws.Schedules.{round_keys-scheduled}
use Rattle.fox_refusals.specs.Refusals.{block_size}
use Rattle.fox_block.specs.Block.{bytes, turn_with}
use Rattle.fox_block.proofs.Laws.Block.{state-size, turned-size}
use Rattle.fox_tag.specs.Cmac.{last_at, keyed_block}
use Rattle.fox_tag.proofs.Laws.Parts.{size-some}
use Rattle.fox_card_tag.proofs.chain.last_into.Goals as goal

pub write-requires : goal.write-requires
write-requires c =
    c.requires.2 ∙ sym (ap size c.turned.ensures ∙ turned-size _ _ _ ∙ ap size c.zero.ensures ∙ state-size _ _)

pub last_part-part-requires : goal.last_part-part-requires
last_part-part-requires c =
    rw (c.write.auto.out ∙ c.requires.2) (size-some c.args.cipher)

pub last_block-requires : goal.last_block-requires
last_block-requires c =
    (rw (c.write.auto.out ∙ c.requires.2) (size-some c.args.cipher), c.last_part-part.ensures.1)

pub returns : goal.returns
unfolding turn_with
returns c =
    let a = c.args in
    let B = block_size a.cipher in
    let is = c.write.auto.out ∙ c.requires.2 in
    let rks = sym (round_keys-scheduled a.cipher a.rounds a.key.now c.of-s.result c.of-s.ensures) in
    c.last_block.ensures
    ∙ ap (λ (l : List ℕ). keyed_block (length c.write.new.out) c.write.new.out l) c.last_part-part.ensures.0
    ∙ ap (λ (b : ℕ). keyed_block b c.write.new.out (last_at b a.message.now)) is
    ∙ ap (λ (block : List ℕ). keyed_block B block (last_at B a.message.now))
    (c.write.ensures
    ∙ ap bytes (c.turned.ensures ∙ ap₂ (λ (ks : List ℕ) (x : State). turned true ks x) rks c.zero.ensures))
