-- `engine::Engine::turn` meets its contract: each round leaves one fewer, and the last one leaves none.
-- Assumes nothing.
use Rattle.std.proofs.Common.{rules}
use mathlib.Core.Path.{ap, ◌∙◌}
use Prim.Native.Nat.{ℕ}
use Rattle.fox_rounds.specs.Skeleton.{round, between}
use Rattle.fox_rounds.specs.declared.state.State.{State}
use Rattle.fox_rounds.proofs.Laws.Skeleton.{turn_left-on, turn_left-last}
use Rattle.fox_server_rounds.proofs.engine.Engine.turn.Goals as goal

pub loop-n-preserved : goal.loop-n-preserved
loop-n-preserved g c =
    let a = c.args in
    let e = a.self.now in
    let key = g.B.Tabled.key_in e.keys.now in
    let state = g.B.Block.state in (
      search rules,
      turn_left-on a.sealing key e.rounds c.loop-n.n (state a.x) (state c.loop-n.y) (state c.between-y.result) (search rules) c.loop-n.invariant.1
          (c.between-y.ensures ∙ ap (between a.sealing) (c.round.ensures ∙ ap (λ (j : ℕ). round (key j) (state c.loop-n.y)) c.place-i.ensures.0)),
    )

pub returns : goal.returns
returns g c =
    let a = c.args in
    let e = a.self.now in
    let key = g.B.Tabled.key_in e.keys.now in
    let state = g.B.Block.state in
    turn_left-last a.sealing key e.rounds c.loop-n.n (state a.x) (state c.loop-n.y) (state c.round-2.result) e.some
    (search rules) (search rules) c.loop-n.invariant.1
    (c.round-2.ensures ∙ ap (λ (j : ℕ). round (key j) (state c.loop-n.y)) c.place-end.ensures.0)
