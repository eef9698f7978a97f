-- `Basis::pass` meets its contract: the bytes up to the block's end are XORed with the block in use. Where the input ends before the block does, the block
-- stays; or else the rest goes on at a block's first byte.
-- Assumes nothing.
use native.Mathlib.Nat.{mod-lt}
use native.Mathlib.Omega.{arith}
use Rattle.fox_server_session_block.proofs.Laws.Blocks.{size-some}
use Rattle.fox_server_session_step.proofs.Laws.Steps.{xored-end, passes-within, passes_on}
use Rattle.fox_server_session_step.proofs.step.Basis.pass.Goals as goal

pub nonzero_rem-skip : goal.nonzero_rem-skip
nonzero_rem-skip c = size-some _ c.block_size-size.ensures

pub xor_block-done-requires : goal.xor_block-done-requires
xor_block-done-requires c =
    let some = size-some c.args.self.now.cipher c.block_size-size.ensures in
    (omega (arith, c.block_size-size.ensures, mod-lt c.args.here.position some), c.requires.out_len)

pub returns-then-skip-input : goal.returns-then-skip-input
returns-then-skip-input c =
    let a = c.args in
    passes-within a.self.now _ a.here a.input.now a.out.now c.requires.ready.keyed c.requires.ready.within c.requires.out_len c.block_size-size.ensures
    c.xor_block-done.ensures c.if-skip-input.true

pub further-requires-clause-first : goal.further-requires-clause-first
further-requires-clause-first c =
    let a = c.args in
    rw c.run.ensures.cipher
    (xored-end a.self.now.cipher a.here.position a.here.block a.input.now a.out.now c.block_size-size.ensures c.xor_block-done.ensures c.if-skip-input.false)

pub returns : goal.returns
returns c =
    let a = c.args in
    let run = c.run.ensures in
    passes_on a.self.now _ a.here a.input.now a.out.now c.requires.ready.keyed c.requires.ready.within c.requires.out_len c.block_size-size.ensures
    c.xor_block-done.ensures c.further.result (rw (run.cipher, run.keys, run.rounds, run.counter) at c.further.ensures.bytes)
    (rw (run.cipher, run.keys, run.rounds, run.counter) at c.further.ensures.block)
