-- `chain::chain` meets its contract: whenever the next block is taken, the state is that of the chain over the blocks before those that are left.
-- Assumes nothing.
use Rattle.std.proofs.Common.{◌≡◌, ℕ, ◌*◌, ◌≤◌, take, drop}
use Rattle.std.specs.Slice.Iter.{chunks_exact_rest, chunks_exact_size}
use Rattle.fox_server_rounds.specs.Keys.{keys_by}
use Rattle.fox_refusals.specs.Refusals.{block_size}
use Rattle.fox_tag.specs.Cmac.{block_at}
use Rattle.fox_tag.proofs.Laws.ByStates.{ChainedState}
use Rattle.fox_server_tag.proofs.chain.chain.Given as goal

abbrev pub invariant-loop-part : goal.invariant-loop-part
invariant-loop-part g l =
    let c = g.B.Cipher.CIPHER in
    let B = block_size c in
    (chunks_exact_size l.part-iterator ≡ B)
    × ((i : ℕ) × (chunks_exact_rest l.part-iterator ≡ drop (i * B) (take (l.n * B) l.message)) × (i ≤ l.n)
    × ChainedState c (keys_by g.B.Tabled.key_in l.engine.keys.now l.engine.rounds) (block_at B l.message) i (g.B.Block.state l.y))
