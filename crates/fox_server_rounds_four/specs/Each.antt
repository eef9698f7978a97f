-- Four blocks side by side: a relation between each of them and what becomes of it.
-- Assumes nothing.
use Rattle.fox_server_rounds_four.specs.declared.four.Four.{Four}

pub record Each {L : Type 0} (P : L → L → Type 0) (x y : Four L) : Type 0 where
  pub first : P x.first y.first
  pub second : P x.second y.second
  pub third : P x.third y.third
  pub fourth : P x.fourth y.fourth
