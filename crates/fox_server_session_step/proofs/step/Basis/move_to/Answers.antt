-- `Basis::move_to` meets its contract: the refusals are those of a stretch of no bytes at the position that it goes to; past them the block of that position is
-- the one in use.
-- Assumes nothing.
use Rattle.std.proofs.Common.{◌≡◌, Err, refl, sym, ◌∙◌, rules}
use native.Mathlib.Omega.{arith}
use lib.ListN.{take}
use Rattle.fox_refusals.proofs.Laws.Refusals.{stretched}
use Rattle.fox_session.specs.Machine.{Move}
use Rattle.fox_server_session_step.specs.Step.{machine_at, TrueAt}
use Rattle.fox_session.proofs.Laws.Calls.{refused_result, served-move}
use Rattle.fox_server_session_step.proofs.Laws.Steps.{refusal-with}
use Rattle.fox_server_session_step.proofs.step.Basis.move_to.Goals as goal

pub returns-in_err-refusal : goal.returns-in_err-refusal
unfolding machine_at
returns-in_err-refusal c =
    let a = c.args in
    let keys = take 510 a.keys.now in
    let is : c.from_residual.result ≡ Err c.in_err-refusal.field-0.0 = search rules in
    refused_result (machine_at a.self.now keys) (TrueAt a.self.now keys) a.here.now (Move a.to) is
    (c.in_err-refusal.ensures ∙ refusal-with a.self.now keys a.here.now _ _ _ refl)

pub renew-here-requires : goal.renew-here-requires
renew-here-requires c =
    let known = stretched _ _ _ _ _ _ _ _ (sym c.in_ok-refusal.ensures) in
    record { keyed = known.keyed; words = c.requires; within = omega (arith, known.end) }

pub returns : goal.returns
unfolding machine_at
returns c =
    let a = c.args in
    let keys = take 510 a.keys.now in
    served-move (machine_at a.self.now keys) (TrueAt a.self.now keys) a.here.now a.to
    (sym (refusal-with a.self.now keys a.here.now _ _ _ refl) ∙ sym c.in_ok-refusal.ensures) (refl, refl) refl c.renew-here.ensures
