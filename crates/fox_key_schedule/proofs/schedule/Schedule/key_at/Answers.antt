-- `schedule::Schedule::key_at` meets its contract: in each case that schedule's non-linear part is applied to the diversified key.
-- Assumes nothing.
use mathlib.Core.Path.{refl, sym, ap, ◌∙◌}
use mathlib.Core.Bool.{true≢false}
use native.Mathlib.Nat.{zero-add}
use Rattle.fox_key_nonlinear.specs.Nonlinear.{NL64, NL64h, NL128}
use Rattle.fox_key_schedule.specs.Step.{round_key_at, narrow}
use Rattle.fox_key_schedule.specs.declared.schedule.Schedule.{Schedule}
use Rattle.fox_key_schedule.proofs.schedule.Schedule.key_at.Goals as goal

pub returns-in-Ks64 : goal.returns-in-Ks64
unfolding round_key_at
returns-in-Ks64 c =
    let reg = c.args.reg in
    record {
      whole = zero-add _ ∙ c.nl64.ensures ∙ ap (NL64 _) c.dkey.ensures ∙ sym (ap (λ (s : Schedule). round_key_at s reg) c.in-Ks64.is);
      short = λ e. refl;
    }

pub returns-in-Ks64h : goal.returns-in-Ks64h
unfolding round_key_at
returns-in-Ks64h c =
    let reg = c.args.reg in
    record {
      whole = zero-add _ ∙ c.nl64h.ensures ∙ ap (NL64h _) c.dkey-in-Ks64h.ensures ∙ sym (ap (λ (s : Schedule). round_key_at s reg) c.in-Ks64h.is);
      short = λ e. refl;
    }

pub returns-in-Ks128 : goal.returns-in-Ks128
unfolding round_key_at narrow
returns-in-Ks128 c =
    let reg = c.args.reg in
    record {
      whole = c.nl128.ensures ∙ ap (NL128 _) c.dkey-in-Ks128.ensures ∙ sym (ap (λ (s : Schedule). round_key_at s reg) c.in-Ks128.is);
      short = λ e. absurd (true≢false (sym e ∙ ap narrow c.in-Ks128.is));
    }
