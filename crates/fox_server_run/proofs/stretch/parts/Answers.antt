-- `stretch::parts` meets its contract: the output is XORed part after part.
-- Assumes nothing.
use Rattle.std.proofs.Common.{rules}
use native.Mathlib.Omega.{arith}
use Rattle.fox_run.proofs.Laws.Loop.{xored_to-first, xored_to-last}
use Rattle.fox_run.proofs.Laws.Parts.{part-within, part-some, part-xored_to}
use Rattle.fox_server_run.proofs.stretch.parts.Goals as goal

pub loop-at-init : goal.loop-at-init
loop-at-init g c =
    let a = c.args in
    (omega arith, search rules, xored_to-first _ a.n a.input.now a.out.now)

pub overflow_add-at : goal.overflow_add-at
overflow_add-at g c =
    let a = c.args in
    omega (arith, part-within a.n c.loop-at.at a.input.now c.loop-at.out c.loop-at.invariant.0 c.part-done.ensures)

pub loop-at-smaller : goal.loop-at-smaller
loop-at-smaller g c =
    let a = c.args in
    omega (arith, part-some a.n c.loop-at.at a.input.now c.loop-at.out c.loop-at.invariant.0 c.part-done.ensures (search rules))

pub loop-at-preserved : goal.loop-at-preserved
loop-at-preserved g c = part-xored_to _ _ _ c.loop-at.out c.loop-at.invariant.0 c.part-done.ensures _ c.requires.out c.loop-at.invariant.2

pub returns : goal.returns
returns g c =
    let a = c.args in
    xored_to-last _ a.n a.input.now a.out.now c.loop-at.at c.requires.out (search rules) c.loop-at.invariant.2
