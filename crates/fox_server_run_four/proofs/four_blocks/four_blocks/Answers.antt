-- `four_blocks::four_blocks` meets its contract: the four sealed counter blocks are the stream's, from the block that byte n begins.
-- Assumes nothing.
use mathlib.Core.Bool.{true}
use mathlib.Core.Path.{◌≡◌, sym, ap, ◌∙◌, subst}
use mathlib.Core.List.{List, ◌++◌}
use Prim.Native.Nat.{ℕ, ◌+◌, ◌*◌, ◌/◌, ◌%◌, ◌<◌}
use lib.ListN.{drop}
use Rattle.fox_layers.specs.Words.{xor_each}
use Rattle.fox_rounds.specs.Skeleton.{size, turned}
use Rattle.fox_rounds.specs.declared.state.State.{State}
use Rattle.fox_server_rounds.specs.Keys.{keys_by}
use Rattle.fox_refusals.specs.Refusals.{block_size}
use Rattle.fox_block.specs.Block.{bytes}
use Rattle.fox_run.specs.States.{counted, sealed, stream}
use Rattle.fox_run.specs.Parts.{XoredTo}
use Rattle.fox_run.proofs.Laws.Streams.{length-sealed, size-pos}
use Rattle.fox_run.proofs.Laws.FourBlocks.{four-xored_to}
use Rattle.fox_server_run_four.proofs.four_blocks.four_blocks.Goals as goal

pub nonzero_div-n : goal.nonzero_div-n
nonzero_div-n g c = subst (λ (n : ℕ). 0 < n) (sym c.size.ensures) (size-pos (g.B.Block.state c.args.x))

-- a counter block, counted and sealed as code does it, is the stream's
block : (rks : List ℕ) (x : State) (i j : ℕ) {y z : State} → z ≡ turned true rks y → y ≡ counted x i → i ≡ j → bytes z ≡ sealed rks x j
unfolding sealed
block rks x i j e f h = ap bytes (e ∙ ap (turned true rks) f) ∙ ap (sealed rks x) h

-- four blocks written, with their size told in one way or the other
rest : (xs ds os : List ℕ) {after : List ℕ} {m n : ℕ} → after ≡ xor_each xs ds ++ drop (4 * m) os → n ≡ m → after ≡ xor_each xs ds ++ drop (4 * n) os
rest xs ds os e h = e ∙ ap (λ (m : ℕ). xor_each xs ds ++ drop (4 * m) os) (sym h)

pub returns : goal.returns
unfolding stream
returns g c =
    let a = c.args in
    let e = a.engine.now in
    let rks = keys_by g.B.Tabled.key_in e.keys.now e.rounds in
    let x = g.B.Block.state a.x in
    let each = c.seal_four-sealed.ensures in
    let blocks = c.counted_four-blocks.ensures in
    let B = size x in
    let sized : B ≡ block_size g.B.Cipher.CIPHER = g.met.B.Cipher.sized a.x in
    let i = a.n / c.size.result in
    let here : i ≡ a.n / B = ap (λ (m : ℕ). a.n / m) c.size.ensures in
    subst (λ (m : ℕ). XoredTo (stream rks x) a.n a.input.now a.out.now (4 * m) c.xor_four.new.out) sized
    (four-xored_to (sealed rks x) B a.n _ _ _ _ a.input.now a.out.now (size-pos x) (length-sealed rks x)
    (subst (λ (m : ℕ). a.n % m ≡ 0) (sym sized) c.requires.whole)
    (block rks x i (a.n / B) each.first blocks.0 here)
    (block rks x (i + 1) (a.n / B + 1) each.second blocks.1 (ap (λ (m : ℕ). m + 1) here))
    (block rks x (i + 2) (a.n / B + 2) each.third blocks.2 (ap (λ (m : ℕ). m + 2) here))
    (block rks x (i + 3) (a.n / B + 3) each.fourth blocks.3 (ap (λ (m : ℕ). m + 3) here))
    (rest _ _ _ c.xor_four.ensures sized))
