-- Blocks of one cipher are the same where their states are, and have at most 16 bytes.
-- Assumes nothing.
use mathlib.Core.Path.{◌≡◌, ap}
use Prim.Native.Nat.{◌≤◌}
use native.Mathlib.Omega.{arith}
use Rattle.fox_rounds.specs.Skeleton.{size}
use Rattle.fox_rounds.specs.declared.fox64.Fox64.{Fox64}
use Rattle.fox_rounds.specs.declared.fox128.Fox128.{Fox128}
use Rattle.fox_rounds.specs.declared.state.State.{State}
use Rattle.fox_rounds.specs.declared.state.State.TheVariants.{Of64, Of128}

pub same-64 : (x y : Fox64) → Of64 x ≡ Of64 y → x ≡ y
same-64 x y e = ap (block x) e
  where
    block : Fox64 → State → Fox64
    block d (Of64 z) = z
    block d (Of128 z) = d

pub same-128 : (x y : Fox128) → Of128 x ≡ Of128 y → x ≡ y
same-128 x y e = ap (block x) e
  where
    block : Fox128 → State → Fox128
    block d (Of64 z) = d
    block d (Of128 z) = z

-- a block has at most 16 bytes
pub size-few : (x : State) → size x ≤ 16
unfolding size
size-few (Of64 x) = omega arith
size-few (Of128 x) = omega arith

-- and at least one
pub size-some : (x : State) → 1 ≤ size x
unfolding size
size-some (Of64 x) = omega arith
size-some (Of128 x) = omega arith
