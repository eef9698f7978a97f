-- A round key has the width of a block: the rounds that give it stay within the width of a state's words.
-- Assumes nothing.
use mathlib.Core.List.{List}
use mathlib.Core.Bool.{Bool}
use Prim.Native.Nat.{ℕ, ◌^◌, ◌<◌}
use lib.Arith.{digits_lt}
use Rattle.fox_rounds.specs.declared.fox128.Fox128.{Fox128}
use Rattle.fox_rounds.proofs.Laws.Halves.{left_lt, right_lt}
use Rattle.fox_rounds.proofs.Laws.Rounds.{Words128}
use Rattle.fox_rounds.proofs.Laws.Undoing.{seal128-words}
use Rattle.fox_key_nonlinear.specs.Nonlinear.{number128, parts128, NL128}

number128-lt : (x : Fox128) → Words128 x → number128 x < 2 ^ 128
unfolding number128
number128-lt x w = digits_lt {m = 2 ^ 64} {c = 2 ^ 64} (digits_lt w.first w.second) (digits_lt w.third w.fourth)

parts128-words : (a b : ℕ) → Words128 (parts128 a b)
unfolding parts128
parts128-words a b = record { first = left_lt 32 a; second = right_lt 32 a; third = left_lt 32 b; fourth = right_lt 32 b }

pub NL128-lt : (flip : Bool) (dkey : List ℕ) → NL128 flip dkey < 2 ^ 128
unfolding NL128
NL128-lt flip dkey = number128-lt _ (seal128-words _ _ (parts128-words _ _))
