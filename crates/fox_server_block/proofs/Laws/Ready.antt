-- Where a call on one block meets no refusal, the server engine's steps have what they need.
-- Assumes nothing.
use mathlib.Core.Path.{◌≡◌, ◌∙◌}
use mathlib.Core.Bool.{Bool}
use mathlib.Core.List.{List}
use Prim.Native.Nat.{ℕ}
use native.Mathlib.Omega.{arith}
use lib.ListN.{length}
use Rattle.fox_refusals.specs.Refusals.{block_size, Blocked}
use Rattle.fox_server_block.specs.Ready.{Ready}

-- what the step for the cipher needs, where no refusal applies
pub ready : {d : Bool} {c r k B : ℕ} (block out : List ℕ) → Blocked d c r k (length block) (length out) → block_size c ≡ B → Ready B r block out
ready block out s size =
    let whole = s.block ∙ size in
    record { some = omega (arith, s.keyed.low); few = s.keyed.high; size = whole; room = s.output ∙ whole }
