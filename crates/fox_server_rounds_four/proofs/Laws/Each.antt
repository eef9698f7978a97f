-- What holds of every block and itself holds of each of four; and what one step and the next do to each block, both do.
-- Assumes nothing.
use Rattle.fox_server_rounds_four.specs.Each.{Each}
use Rattle.fox_server_rounds_four.specs.declared.four.Four.{Four}

pub all : {L : Type 0} {P : L → L → Type 0} (x : Four L) → ((a : L) → P a a) → Each P x x
all x p = record { first = p x.first; second = p x.second; third = p x.third; fourth = p x.fourth }

pub then : {L : Type 0} {P Q R : L → L → Type 0} (x y z : Four L) → ((a b c : L) → P a b → Q b c → R a c) → Each P x y → Each Q y z → Each R x z
then x y z on p q =
    record {
      first = on x.first y.first z.first p.first q.first;
      second = on x.second y.second z.second p.second q.second;
      third = on x.third y.third z.third p.third q.third;
      fourth = on x.fourth y.fourth z.fourth p.fourth q.fourth;
    }
