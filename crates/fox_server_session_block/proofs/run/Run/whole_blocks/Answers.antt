-- `Run::whole_blocks` meets its contract: a stretch of no bytes is empty, as its output is; any other is that of the counter block in two words.
-- Assumes nothing.
use mathlib.Core.Path.{sym, ◌∙◌}
use borrow.Author.Tests.{eqb-true}
use native.Mathlib.Omega.{arith}
use lib.Seq.{length-take-le}
use Rattle.fox_run.specs.Run.{run_with}
use Rattle.fox_run.proofs.Laws.Loop.{xored_to-first, xored_to-last}
use Rattle.fox_server_key.proofs.Laws.Prepares.{size-le}
use Rattle.fox_server_session_block.proofs.Laws.Blocks.{front-block, front_length}
use Rattle.fox_server_session_block.proofs.run.Run.whole_blocks.Goals as goal

pub returns-then-is_empty : goal.returns-then-is_empty
unfolding run_with
returns-then-is_empty c =
    let a = c.args in
    xored_to-last _ a.n a.input.now a.out.now 0 c.requires.out_len (sym (eqb-true _ 0 (sym c.is_empty.ensures ∙ c.if-is_empty.true))) (xored_to-first _ a.n a.input.now a.out.now)

pub slice_bounds-first-end : goal.slice_bounds-first-end
slice_bounds-first-end c = omega (arith, size-le _ c.block_size-size.ensures)

pub slice_bounds-stretch-end : goal.slice_bounds-stretch-end
slice_bounds-stretch-end c = sym (length-take-le _ _ (omega (arith, size-le _ c.block_size-size.ensures)))

pub stretch-requires : goal.stretch-requires
stretch-requires c =
    let a = c.args in
    record {
      some = a.self.now.rounds_in.0;
      few = a.self.now.rounds_in.1;
      block = front_length a.self.now.cipher a.self.now.counter c.from-first.ensures c.block_size-size.ensures;
      end = c.requires.within;
      output = c.requires.out_len;
    }

pub returns : goal.returns
returns c =
    let a = c.args in
    rw (front-block a.self.now.cipher a.self.now.counter c.from-first.ensures c.block_size-size.ensures) at c.stretch.ensures
