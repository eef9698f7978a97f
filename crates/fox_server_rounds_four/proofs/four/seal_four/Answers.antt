-- `four::seal_four` meets its contract: each round leaves one fewer for each of the four, and the last one leaves none.
-- Assumes nothing.
use Rattle.std.proofs.Common.{rules, true}
use Prim.Native.Nat.{ℕ}
use mathlib.Core.Path.{ap, ◌∙◌}
use Rattle.fox_rounds.specs.Skeleton.{round, between, place}
use Rattle.fox_rounds.proofs.Laws.Skeleton.{turn_left-on, turn_left-last}
use Rattle.fox_server_rounds_four.proofs.Laws.Each.{then}
use Rattle.fox_server_rounds_four.proofs.four.seal_four.Goals as goal

pub loop-i-preserved : goal.loop-i-preserved
unfolding place
loop-i-preserved g c =
    let a = c.args in
    let e = a.engine.now in
    let key = g.B.Tabled.key_in e.keys.now in (
      search rules,
      then a.x c.loop-i.y
          (record { first = c.round_or_four.new.first; second = c.round_or_four.new.second; third = c.round_or_four.new.third; fourth = c.round_or_four.new.fourth })
          (λ p q r left on. turn_left-on true key e.rounds c.loop-i.i (g.B.Block.state (g.B.Beside.narrow p)) (g.B.Block.state (g.B.Beside.narrow q))
          (g.B.Block.state (g.B.Beside.narrow r)) (search rules) left
          (on ∙ ap (λ (k : ℕ). between true (round k (g.B.Block.state (g.B.Beside.narrow q)))) c.key_at-left.ensures))
          c.loop-i.invariant.1
          (record { first = c.round_or_four.ensures.first; second = c.round_or_four.ensures.second; third = c.round_or_four.ensures.third; fourth = c.round_or_four.ensures.fourth }),
    )

pub returns : goal.returns
unfolding place
returns g c =
    let a = c.args in
    let e = a.engine.now in
    let key = g.B.Tabled.key_in e.keys.now in
    then a.x c.loop-i.y
    (record { first = c.round_four.new.first; second = c.round_four.new.second; third = c.round_four.new.third; fourth = c.round_four.new.fourth })
    (λ p q r left on. turn_left-last true key e.rounds c.loop-i.i (g.B.Block.state (g.B.Beside.narrow p)) (g.B.Block.state (g.B.Beside.narrow q))
    (g.B.Block.state (g.B.Beside.narrow r)) e.some (search rules) (search rules) left
    (on ∙ ap (λ (k : ℕ). round k (g.B.Block.state (g.B.Beside.narrow q))) c.key_at-left-2.ensures))
    c.loop-i.invariant.1
    (record { first = c.round_four.ensures.first; second = c.round_four.ensures.second; third = c.round_four.ensures.third; fourth = c.round_four.ensures.fourth })
