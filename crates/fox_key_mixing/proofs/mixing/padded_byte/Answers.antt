-- `mixing::padded_byte` meets its contract: each branch is the law for an element of two lists joined.
-- Assumes nothing.
use Prim.Native.Nat.{◌+◌, ◌-◌}
use native.Mathlib.Omega.{arith}
use mathlib.Core.Path.{◌≡◌, sym}
use lib.ListN.{length, get_or-append}
use lib.Seq.{get_or-append-add}
use Rattle.fox_key_mixing.proofs.mixing.padded_byte.Goals as goal

pub returns-then-i-key : goal.returns-then-i-key
returns-then-i-key c =
    let a = c.args in
    sym (get_or-append a.key.now a.pad.now 0 a.i (omega arith))

pub returns-else-i-key : goal.returns-else-i-key
returns-else-i-key c =
    let a = c.args in
    let n = length a.key.now in
    let there : n + (a.i - n) ≡ a.i = omega arith in
    rw there at (sym (get_or-append-add a.key.now a.pad.now (a.i - n) 0))
