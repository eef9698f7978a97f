-- `chain::tagged` meets its contract: the chain over the blocks before the last, and the last block with its subkey.
-- Assumes nothing.
use mathlib.Core.Bool.{true}
use mathlib.Core.Path.{◌≡◌, sym, ap, ap₂, ◌∙◌, subst}
use mathlib.Core.List.{List}
use Prim.Native.Nat.{ℕ, ◌*◌, ◌≤◌}
use lib.Dec.{lit≤}
use lib.ListN.{length, replicate}
use Rattle.fox_rounds.specs.Skeleton.{size, turned}
use Rattle.fox_rounds.specs.declared.state.State.{State}
use Rattle.fox_rounds.specs.declared.state.State.TheVariants.{Of64, Of128}
use Rattle.fox_server_rounds.specs.Keys.{keys_by}
use Rattle.fox_refusals.specs.Refusals.{block_size}
use Rattle.fox_block.specs.Block.{state, bytes, turn_with, seal_with}
use Rattle.fox_tag.specs.Cmac.{blocks_before, last_at, keyed_block}
use Rattle.fox_tag.specs.Tag.{chain_of}
use Rattle.fox_tag.proofs.Laws.ByStates.{tag-state}
use Rattle.fox_tag.proofs.Laws.Parts.{before-within}
use Rattle.fox_server_tag.proofs.chain.tagged.Goals as goal

-- a block has bytes
size-pos : (x : State) → 1 ≤ size x
unfolding size
size-pos (Of64 x) = lit≤ tt
size-pos (Of128 x) = lit≤ tt

pub last_part-requires : goal.last_part-requires
last_part-requires g c = subst (λ (n : ℕ). 1 ≤ n) (sym c.size-size.ensures) (size-pos (g.B.Block.state c.turn-x.result))

pub blocks_before-n-requires : goal.blocks_before-n-requires
blocks_before-n-requires g c = subst (λ (n : ℕ). 1 ≤ n) (sym c.size-size.ensures) (size-pos (g.B.Block.state c.turn-x.result))

pub chain-y-requires : goal.chain-y-requires
chain-y-requires g c =
    let message = c.args.message.now in
    let B = block_size g.B.Cipher.CIPHER in
    let is : c.size-size.result ≡ B = c.size-size.ensures ∙ g.met.B.Cipher.sized c.turn-x.result in
    subst (λ (n : ℕ). n * B ≤ length message) (sym (c.blocks_before-n.ensures ∙ ap (λ (m : ℕ). blocks_before m message) is)) (before-within B message)

pub returns : goal.returns
unfolding turn_with
returns g c =
    let a = c.args in
    let e = a.engine.now in
    let cipher = g.B.Cipher.CIPHER in
    let rks = keys_by g.B.Tabled.key_in e.keys.now e.rounds in
    let message = a.message.now in
    let part = c.last_part.result.now in
    let x = g.B.Block.state c.turn-x.result in
    let zeros : List ℕ = replicate (block_size cipher) 0 in
    let one : size x ≡ block_size cipher = g.met.B.Cipher.sized c.turn-x.result in
    let is : c.size-size.result ≡ block_size cipher = c.size-size.ensures ∙ one in
    let sealed : bytes x ≡ seal_with cipher rks zeros = ap bytes (c.turn-x.ensures ∙ ap (turned true rks) c.zero.ensures) in
    tag-state cipher rks message (λ i. (c.type_inv.message i).fits)
    (c.chain-y.ensures
    ∙ ap (λ (k : ℕ). state cipher (chain_of cipher rks message k)) (c.blocks_before-n.ensures ∙ ap (λ (m : ℕ). blocks_before m message) is))
    (c.last_part.ensures.0 ∙ ap (λ (m : ℕ). last_at m message) is) (subst (λ (m : ℕ). length part ≤ m) is c.last_part.ensures.1)
    (c.last-z.ensures ∙ ap₂ (λ (m : ℕ) (l : List ℕ). state cipher (keyed_block m l part)) one sealed)
    (c.turn.ensures ∙ ap (turned true rks) c.xor.ensures)
