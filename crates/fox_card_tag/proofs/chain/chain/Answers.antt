-- `chain::chain` meets its contract: whenever the loop's test is reached, the state is that of the chain over the first i blocks, the last among them.
-- Assumes nothing.
use mathlib.Core.Path.{◌≡◌, sym, ap, ap₂, ◌∙◌, subst}
use mathlib.Core.Bool.{true}
use mathlib.Core.List.{List}
use Prim.Native.Nat.{ℕ, ◌+◌, ◌*◌, ◌≤◌}
use native.Mathlib.Omega.{arith}
use lib.ListN.{length}
use borrow.Author.Rules.{rules}
use Rattle.fox_layers.specs.Words.{xor_each}
use Rattle.fox_rounds.specs.Skeleton.{size, turned}
use Rattle.fox_key_schedule.specs.Step.{round_keys_of}
use Rattle.fox_key_schedule.proofs.Laws.Schedules.{round_keys-scheduled}
use Rattle.fox_refusals.specs.Refusals.{block_size}
use Rattle.fox_block.specs.Block.{state, bytes, seal_with, BlockOf}
use Rattle.fox_block.proofs.Laws.Block.{state-size}
use Rattle.fox_block.proofs.Laws.States.{bytes-state}
use Rattle.fox_tag.specs.Cmac.{blocks_before}
use Rattle.fox_tag.specs.Tag.{chain_of}
use Rattle.fox_tag.proofs.Laws.ByStates.{ChainedState, chained_state-first, chained_state-on, with_last, with_last-block, all-chained}
use Rattle.fox_tag.proofs.Laws.Parts.{size-some, before-within, one_more}
use Rattle.fox_tag.proofs.Laws.States.{sealed-block}
use Rattle.fox_card_tag.proofs.chain.chain.Goals as goal

-- the blocks before the last lie within the message
all-within : (cipher n : ℕ) {size : ℕ} (message : List ℕ) → size ≡ block_size cipher → n ≡ blocks_before size message → n * block_size cipher ≤ length message
all-within cipher n message is many = rw (many ∙ ap (λ (b : ℕ). blocks_before b message) is) (before-within (block_size cipher) message)

pub blocks_before-n-requires : goal.blocks_before-n-requires
blocks_before-n-requires c =
    rw c.requires.2 (size-some c.args.cipher)

pub overflow_add-i-end : goal.overflow_add-i-end
overflow_add-i-end c =
    let a = c.args in
    let fits = one_more (length a.out.now) a.message.now (search rules) in
    omega (arith, c.blocks_before-n.ensures)

pub loop-i-init : goal.loop-i-init
loop-i-init c =
    let a = c.args in (
      omega arith,
      rw c.blocks_before-n.ensures (one_more (length a.out.now) a.message.now (search rules)),
      chained_state-first a.cipher (round_keys_of c.of-s.result a.rounds)
          (with_last a.cipher (round_keys_of c.of-s.result a.rounds) a.message.now a.out.now c.blocks_before-n.result) c.zero-y.ensures,
    )

pub block_at-requires : goal.block_at-requires
block_at-requires c =
    let a = c.args in
    (all-within a.cipher _ a.message.now c.requires.2 c.blocks_before-n.ensures, c.requires.2)

pub loop-i-preserved : goal.loop-i-preserved
loop-i-preserved c =
    let a = c.args in
    let rks = round_keys_of c.of-s.result a.rounds in
    let room = all-within a.cipher _ a.message.now c.requires.2 c.blocks_before-n.ensures in
    let last : BlockOf a.cipher a.out.now = record { size = c.requires.2; bytes = search rules } in
    let f = with_last a.cipher rks a.message.now a.out.now c.blocks_before-n.result in (
      search rules,
      c.loop-i.invariant.1,
      chained_state-on a.cipher rks f c.loop-i.i
          (with_last-block a.cipher rks a.message.now a.out.now c.blocks_before-n.result c.loop-i.i
          (λ i. (c.type_inv.message i).fits) room last)
          c.loop-i.invariant.2 c.block_at.ensures (c.turned-y.ensures ∙ ap (turned true rks) c.xor.ensures),
    )

pub write-requires : goal.write-requires
write-requires c =
    c.requires.2 ∙ sym (ap size c.loop-i.invariant.2 ∙ state-size _ _)

pub returns : goal.returns
returns c =
    let a = c.args in
    let rks = round_keys_of c.of-s.result a.rounds in
    let n = c.blocks_before-n.result in
    let all : c.loop-i.i ≡ n + 1 = search rules in
    let f = with_last a.cipher rks a.message.now a.out.now n in
    let done = subst (λ (k : ℕ). ChainedState a.cipher rks f k c.loop-i.y) all c.loop-i.invariant.2 in
    let key = sym (round_keys-scheduled a.cipher a.rounds a.key.now c.of-s.result c.of-s.ensures) in
    c.write.ensures
    ∙ ap bytes (done ∙ ap (state a.cipher) (all-chained a.cipher rks a.message.now a.out.now n))
    ∙ bytes-state a.cipher _ (sealed-block a.cipher rks _)
    ∙ ap₂ (λ (ks : List ℕ) (k : ℕ). seal_with a.cipher ks (xor_each (chain_of a.cipher ks a.message.now k) a.out.now)) key
    (c.blocks_before-n.ensures ∙ ap (λ (b : ℕ). blocks_before b a.message.now) c.requires.2)
