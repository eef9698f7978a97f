-- `Run::sealed` meets its contract: after the loop one round is left.
-- Assumes nothing.
use Rattle.std.proofs.Common.{true, List, ℕ, ap, ◌∙◌, rules}
use Rattle.fox_rounds.specs.Skeleton.{between, place, turned}
use Rattle.fox_rounds.proofs.Laws.Skeleton.{turn_left-on, turn_left-last}
use Rattle.fox_server_session_block.specs.Keys.{held_key}
use Rattle.fox_server_session_block.proofs.Laws.Keys.{held_keys-numbered}
use Rattle.fox_server_session_block.proofs.run.Run.sealed.Goals as goal

pub loop-i-preserved : goal.loop-i-preserved
unfolding place
loop-i-preserved c =
    let s = c.args.self.now in
    turn_left-on true (held_key s.cipher s.keys.now) s.rounds c.loop-i.i c.args.x c.loop-i.y c.between-y.result (search rules) c.loop-i.invariant
    (c.between-y.ensures ∙ ap (between true) c.round_at.ensures)

pub returns : goal.returns
unfolding place
returns c =
    let s = c.args.self.now in
    turn_left-last true (held_key s.cipher s.keys.now) s.rounds c.loop-i.i c.args.x c.loop-i.y c.round_at-2.result
    (search rules) (search rules) (search rules) c.loop-i.invariant c.round_at-2.ensures
    ∙ ap (λ (ks : List ℕ). turned true ks c.args.x) (held_keys-numbered s.cipher s.keys.now s.rounds)
