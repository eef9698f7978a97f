-- `Basis::advance` meets its contract: the refusals are those of a stretch at the position with a counter block of the block's size; past them the next bytes
-- are passed, and the position moves on by their number.
-- Assumes nothing.
use Rattle.std.proofs.Common.{◌≡◌, Err, refl, sym, ◌∙◌, rules}
use native.Mathlib.Omega.{arith}
use lib.ListN.{take}
use Rattle.fox_refusals.proofs.Laws.Refusals.{stretched}
use Rattle.fox_session.specs.Machine.{Advance}
use Rattle.fox_server_session_step.specs.Step.{machine_at, TrueAt}
use Rattle.fox_session.proofs.Laws.Calls.{refused_result, served-advance}
use Rattle.fox_server_session_step.proofs.Laws.Steps.{refusal-with}
use Rattle.fox_server_session_step.proofs.step.Basis.advance.Goals as goal

pub returns-in_err-refusal : goal.returns-in_err-refusal
unfolding machine_at
returns-in_err-refusal c =
    let a = c.args in
    let keys = take 510 a.keys.now in
    let is : c.from_residual.result ≡ Err c.in_err-refusal.field-0.0 = search rules in
    refused_result (machine_at a.self.now keys) (TrueAt a.self.now keys) a.here.now (Advance a.input.now a.out.now) is
    (c.in_err-refusal.ensures ∙ refusal-with a.self.now keys a.here.now _ _ _ refl)

pub pass-here-requires : goal.pass-here-requires
pass-here-requires c =
    let known = stretched _ _ _ _ _ _ _ _ (sym c.in_ok-refusal.ensures) in
    record { ready = record { keyed = known.keyed; words = c.requires; within = known.end }; out_len = known.output }

pub overflow_add-here : goal.overflow_add-here
overflow_add-here c =
    let known = stretched _ _ _ _ _ _ _ _ (sym c.in_ok-refusal.ensures) in
    record { fits = omega (arith, known.end) }

pub returns : goal.returns
unfolding machine_at
returns c =
    let a = c.args in
    let keys = take 510 a.keys.now in
    let none = sym c.in_ok-refusal.ensures in
    served-advance (machine_at a.self.now keys) (TrueAt a.self.now keys) a.here.now a.input.now a.out.now
    (sym (refusal-with a.self.now keys a.here.now _ _ _ refl) ∙ none)
    (refl, c.pass-here.auto.out) (stretched _ _ _ _ _ _ _ _ none).output refl c.pass-here.ensures.bytes c.pass-here.ensures.block
