-- `key_stream::xor_whole` meets its contract: the bytes of a block XORed with another are the XOR of their bytes.
-- Assumes nothing.
use Rattle.std.proofs.Common.{◌≡◌, sym, ap, ap₂, ◌∙◌, ℕ, List, ◌++◌, ◌≤◌, length, take, drop, arith}
use lib.Seq.{length-take-le}
use Rattle.fox_layers.specs.Words.{xor_each}
use Rattle.fox_layers.proofs.Laws.Words.{take-bytes}
use Rattle.fox_rounds.specs.Skeleton.{size}
use Rattle.fox_rounds.specs.Xor.{xor_states}
use Rattle.fox_bytes.proofs.Laws.XorEach.{xor_each-take}
use Rattle.fox_block.specs.Block.{bytes, BlockOf}
use Rattle.fox_block.proofs.Laws.Block.{length-bytes}
use Rattle.fox_block.proofs.Laws.States.{bytes-xored}
use Rattle.fox_engine_run.proofs.key_stream.xor_whole.Goals as goal

pub returns : goal.returns
returns g c =
    let ds = c.args.input.now in
    let x = g.B.Block.state c.args.x in
    let n = c.size-size.result in
    let here : n ≡ size x = c.size-size.ensures in
    let long : n ≤ length ds = omega (arith, here, c.requires.0) in
    let block : BlockOf g.B.Cipher.CIPHER (take n ds) =
    record {
      size = length-take-le n ds long ∙ here ∙ g.met.B.Cipher.sized c.args.x;
      bytes = take-bytes n ds (λ i. (c.type_inv.input i).fits);
    } in
    let front = c.write.ensures ∙ ap bytes (c.xor.ensures ∙ ap (xor_states x) c.read.ensures)
    ∙ bytes-xored g.B.Cipher.CIPHER x (take n ds) (g.met.B.Cipher.sized c.args.x) block
    ∙ ap (λ (m : ℕ). xor_each (bytes x) (take m ds)) (here ∙ sym (length-bytes x))
    ∙ xor_each-take (bytes x) ds in
    ap₂ (λ (l : List ℕ) (m : ℕ). l ++ drop m c.args.out.now) front here
