-- `key::Key::dkey` meets its contract: the XOR of words has the XOR of their bytes, and bytes that are left of the register values do not count.
-- Assumes nothing.
use Rattle.std.proofs.Common.{arith, ◌≡◌, ◌∙◌, refl, []}
use mathlib.Core.List.{append-nil}
use lib.ListN.{take, drop, length-set, drop_of_length-le}
use lib.Seq.{take_all}
use Rattle.fox_layers.specs.Words.{split, xor_each}
use Rattle.fox_key_mixing.proofs.Laws.KeyBytes.{xored-step}
use Rattle.fox_key_mixing.proofs.Laws.Stream.{dkey-row}
use Rattle.fox_key_mixing.proofs.key.Key.dkey.Goals as goal

pub loop-i-init : goal.loop-i-init
loop-i-init g c = (omega arith, refl)

pub loop-i-preserved : goal.loop-i-preserved
loop-i-preserved g c =
    let l = c.loop-i in
    let there = l.invariant.0 in (
      length-set l.w-items l.i _ ∙ there,
      xored-step l.w-items c.stream-row.result (xor_each c.args.self.words c.stream-row.result) l.i _ (omega arith) (omega arith) refl l.invariant.1,
    )

pub returns : goal.returns
unfolding xor_each split
returns g c =
    let l = c.loop-i in
    let row = c.stream-row.result in
    let none : drop l.i l.w-items ≡ [] = drop_of_length-le l.w-items {i = l.i} (omega arith) in
    let done = rw (none, append-nil (take l.i l.w-items), take_all l.i l.w-items (omega arith)) at l.invariant.1 in
    rw done (dkey-row c.args.self.words row _ c.args.reg (omega arith) refl c.stream-row.ensures)
