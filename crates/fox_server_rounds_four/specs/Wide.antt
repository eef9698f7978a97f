-- A block of FOX128 in two words of 64 bits, as a state of four words: the left word has LL and then RL, the right one LR and then RR.
-- Assumes nothing.
use Rattle.fox_rounds.specs.Rounds.{left, right}
use Rattle.fox_rounds.specs.declared.fox128.Fox128.{Fox128}
use Rattle.fox_server_rounds_four.specs.declared.wide.Wide128.{Wide128}

unfoldable pub narrow : Wide128 → Fox128
narrow x = record { ll = left 32 x.l; lr = left 32 x.r; rl = right 32 x.l; rr = right 32 x.r }
