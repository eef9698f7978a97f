-- `stretch::stretch` meets its contract: whenever the loop's test is reached, the output is XORed up to `at`, and the rest of it is as it was. Each step does at
-- least one byte of what is left.
-- Assumes nothing.
use Rattle.std.proofs.Common.{arith, rules}
use Rattle.fox_run.proofs.Laws.Loop.{xored_to-first, xored_to-last}
use Rattle.fox_run.proofs.Laws.Parts.{part-within, part-some, part-xored_to}
use Rattle.fox_card_run.proofs.stretch.stretch.Goals as goal

pub loop-at-init : goal.loop-at-init
loop-at-init c =
    let a = c.args in
    (omega arith, c.requires.2, xored_to-first _ a.n a.input.now a.out.now)

pub overflow_add-at : goal.overflow_add-at
overflow_add-at c =
    omega (arith, part-within c.args.n c.loop-at.at c.args.input.now c.loop-at.out c.loop-at.invariant.0 c.one_block-at.ensures)

pub loop-at-smaller : goal.loop-at-smaller
loop-at-smaller c =
    omega (arith, part-some c.args.n c.loop-at.at c.args.input.now c.loop-at.out c.loop-at.invariant.0 c.one_block-at.ensures (search rules))

pub loop-at-preserved : goal.loop-at-preserved
loop-at-preserved c =
    part-xored_to _ _ _ c.loop-at.out c.loop-at.invariant.0 c.one_block-at.ensures _ c.requires.2 c.loop-at.invariant.2

pub returns : goal.returns
returns c =
    let a = c.args in
    xored_to-last _ a.n a.input.now a.out.now c.loop-at.at c.requires.2 (search rules) c.loop-at.invariant.2
