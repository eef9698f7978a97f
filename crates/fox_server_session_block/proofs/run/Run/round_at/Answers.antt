-- `Run::round_at` meets its contract: round key number i is one word for FOX64, and two for FOX128.
-- Assumes nothing.
use Rattle.std.proofs.Common.{ℕ, ap, ◌∙◌, arith}
use Rattle.fox_rounds.specs.Skeleton.{round}
use Rattle.fox_rounds.specs.RoundKeys.{round_key_in64, round_key_in128}
use Rattle.fox_server_session_block.proofs.Laws.Keys.{held_key-64, held_key-128}
use Rattle.fox_server_session_block.proofs.run.Run.round_at.Goals as goal

pub returns-then-self-eq64 : goal.returns-then-self-eq64
unfolding round_key_in64
returns-then-self-eq64 c =
    let a = c.args in
    c.round.ensures ∙ ap (λ (k : ℕ). round k a.x) (omega arith ∙ held_key-64 a.self.now.cipher a.self.now.keys.now a.i c.if-self-eq64.true)

pub returns : goal.returns
unfolding round_key_in128
returns c =
    let a = c.args in
    c.round-2.ensures ∙ ap (λ (k : ℕ). round k a.x) (held_key-128 a.self.now.cipher a.self.now.keys.now a.i c.if-self-eq64.false)
