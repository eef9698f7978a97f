-- `stretch::part` meets its contract: four whole blocks where byte n begins a block, or else one block.
-- Assumes nothing.
use Rattle.std.proofs.Common.{rules}
use mathlib.Core.Path.{◌≡◌, sym, ◌∙◌, subst}
use Prim.Native.Nat.{ℕ, ◌*◌, ◌%◌, ◌<◌}
use native.Mathlib.Omega.{arith}
use Rattle.fox_server_rounds.specs.Keys.{keys_by}
use Rattle.fox_refusals.specs.Refusals.{block_size}
use Rattle.fox_run.specs.Parts.{XoredTo}
use Rattle.fox_run.specs.States.{stream}
use Rattle.fox_run.proofs.Laws.Streams.{size-pos}
use Rattle.fox_server_run.proofs.Laws.Stretch.{size-few}
use Rattle.fox_server_run.proofs.stretch.part.Goals as goal

pub overflow_mul-size : goal.overflow_mul-size
overflow_mul-size g c = record { fits = omega (arith, c.size-size.ensures, size-few (g.B.Block.state c.args.x)) }

pub nonzero_rem-skip : goal.nonzero_rem-skip
nonzero_rem-skip g c = subst (λ (n : ℕ). 0 < n) (sym c.size-size.ensures) (size-pos (g.B.Block.state c.args.x))

pub four_blocks-requires : goal.four_blocks-requires
four_blocks-requires g c =
    let size : c.size-size.result ≡ block_size g.B.Cipher.CIPHER = c.size-size.ensures ∙ g.met.B.Cipher.sized c.args.x in
    record {
      whole = subst (λ (m : ℕ). c.args.n % m ≡ 0) size c.if-skip-eq0.true;
      end = omega (arith, size, c.requires.end, c.if-input-size.true);
      input = omega (arith, size, c.if-input-size.true);
      out = omega (arith, size, c.requires.out, c.if-input-size.true);
    }

pub returns-then-skip-eq0 : goal.returns-then-skip-eq0
returns-then-skip-eq0 g c =
    let a = c.args in
    let e = a.engine.now in
    let rks = keys_by g.B.Tabled.key_in e.keys.now e.rounds in
    let size : c.size-size.result ≡ block_size g.B.Cipher.CIPHER = c.size-size.ensures ∙ g.met.B.Cipher.sized a.x in
    record {
      some = λ h. omega (arith, c.size-size.ensures, size-pos (g.B.Block.state a.x));
      within = c.if-input-size.true;
      output = subst (λ (m : ℕ). XoredTo (stream rks (g.B.Block.state a.x)) a.n a.input.now a.out.now (4 * m) c.four_blocks.new.out) (sym size)
          c.four_blocks.ensures;
    }
