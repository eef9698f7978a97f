-- `engine::Engine::seal` meets its contract: each round leaves one fewer, and the last one leaves none.
-- Assumes nothing.
use Rattle.std.proofs.Common.{rules, true}
use mathlib.Core.Path.{ap, ◌∙◌}
use Rattle.fox_rounds.specs.Skeleton.{between, place}
use Rattle.fox_rounds.proofs.Laws.Skeleton.{turn_left-on, turn_left-last}
use Rattle.fox_server_rounds.proofs.engine.Engine.seal.Goals as goal

pub loop-i-preserved : goal.loop-i-preserved
unfolding place
loop-i-preserved g c =
    let a = c.args in
    let e = a.self.now in
    let state = g.B.Block.state in (
      search rules,
      turn_left-on true (g.B.Tabled.key_in e.keys.now) e.rounds c.loop-i.i (state a.x) (state c.loop-i.y) (state c.or-y.result) (search rules)
          c.loop-i.invariant.1 (c.or-y.ensures ∙ ap (between true) c.round.ensures),
    )

pub returns : goal.returns
unfolding place
returns g c =
    let a = c.args in
    let e = a.self.now in
    let state = g.B.Block.state in
    turn_left-last true (g.B.Tabled.key_in e.keys.now) e.rounds c.loop-i.i (state a.x) (state c.loop-i.y) (state c.round-2.result) e.some
    (search rules) (search rules) c.loop-i.invariant.1 c.round-2.ensures
