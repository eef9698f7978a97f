-- `prepared::fill` meets its contract: whenever the loop's test is reached, the words have the round keys so far, the rest are 0, and the register has the
-- value for the next round key.
-- Assumes nothing.
use Rattle.std.proofs.Common.{rules, arith, ◌≡◌, ℕ, refl, sym, ap, ◌∙◌}
use mathlib.Core.Bool.{true}
use Rattle.fox_layers.specs.Lists.{numbered}
use Rattle.fox_rounds.specs.Rounds.{left, right}
use Rattle.fox_rounds.specs.Skeleton.{place}
use Rattle.fox_rounds.proofs.Laws.Halves.{left-pair, right-pair}
use Rattle.fox_key_schedule.specs.Step.{onward, round_key_of}
use Rattle.fox_key_schedule.proofs.Laws.RegisterAt.{register_at-on}
use Rattle.fox_key_schedule.proofs.Laws.Schedules.{register_at-key, right-round_key_at}
use Rattle.fox_server_key.specs.Prepared.{in_halves, filled}
use Rattle.fox_server_key.proofs.Laws.Filled.{filled-64, filled-128}
use Rattle.fox_server_key.proofs.prepared.fill.Goals as goal

pub loop-i-init : goal.loop-i-init
unfolding filled in_halves numbered
loop-i-init g c = (search rules, c.first-reg.ensures, λ e. refl, λ n. refl)

pub loop-i-preserved : goal.loop-i-preserved
unfolding place onward
loop-i-preserved g c =
    let a = c.args in
    let l = c.loop-i in
    let k = c.round_key-k.result.key in
    let made = c.round_key-k.ensures in
    let at = register_at-key a.s a.rounds true l.i (omega arith) l.invariant.1 in
    let key = made.key.whole ∙ at in (
      search rules,
      register_at-on a.s a.rounds true l.i (search rules) (omega arith) l.invariant.1 made,
      λ e.
          c.store.ensures.one e
          ∙ filled-64 (round_key_of a.s a.rounds) l.i k.right l.keys (search rules) (right-round_key_at made.key (c.requires.0 e) ∙ at) (l.invariant.2 e),
      λ n.
          c.store.ensures.two n
          ∙ filled-128 (round_key_of a.s a.rounds) l.i k.left k.right l.keys (search rules)
          (sym (left-pair 64 k.left k.right (search rules) (search rules)) ∙ ap (left 64) key)
          (sym (right-pair 64 k.left k.right (search rules)) ∙ ap (right 64) key) (l.invariant.3 n),
    )

pub returns : goal.returns
returns g c =
    let a = c.args in
    let l = c.loop-i in
    let all : l.i ≡ a.rounds = omega arith in
    record {
      one = λ e. l.invariant.2 e ∙ ap (λ (n : ℕ). filled (numbered (round_key_of a.s a.rounds) n 0)) all;
      two = λ e. l.invariant.3 e ∙ ap (λ (n : ℕ). filled (in_halves (numbered (round_key_of a.s a.rounds) n 0))) all;
    }
