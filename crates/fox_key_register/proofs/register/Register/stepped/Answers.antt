-- `register::Register::stepped` meets its contract: folding over as many numbers as there are steps takes so many steps.
-- Assumes nothing.
use Rattle.std.proofs.Common.{rules, arith, ◌≡◌, ℕ, List, length, refl, ap, ◌∙◌}
use Rattle.std.proofs.lemmas.Fn.{fold_over}
use Rattle.std.proofs.lemmas.Iterator.{YieldsList-from_range}
use Rattle.std.proofs.lemmas.List.FromFn.{length-range_with_len}
use Rattle.std.proofs.iter.Yields.{nat_range_steps}
use Rattle.std.specs.List.{range_with_len}
use mathlib.Core.Bool.{true, false}
use Rattle.fox_key_register.specs.Register.{step, stepped}
use Rattle.fox_key_register.proofs.Laws.Register.{stepped-none, stepped-more}
use Rattle.fox_key_register.proofs.register.Register.stepped.Goals as goal

pub returns-then-on : goal.returns-then-on
unfolding step
returns-then-on c =
    let a = c.args in
    let all : c.fold.result ≡ stepped true (length (range_with_len 0 a.steps)) a.self =
    fold_over nat_range_steps (λ (x : ℕ). x) _ (λ (ys : List ℕ) (now : ℕ). now ≡ stepped true (length ys) a.self) _
    (λ ys now x next f' j k. let e : next ≡ step true now = search rules in (e ∙ ap (step true) j ∙ stepped-more true ys x a.self, refl)) _
    (range_with_len 0 a.steps) a.self _ (YieldsList-from_range 0 a.steps a.steps refl (omega arith)).runs (stepped-none true a.self) c.fold.ensures.ran in
    cc (all, length-range_with_len 0 a.steps, c.if-on.true)

pub returns-else-on : goal.returns-else-on
unfolding step
returns-else-on c =
    let a = c.args in
    let all : c.fold-else-on.result ≡ stepped false (length (range_with_len 0 a.steps)) a.self =
    fold_over nat_range_steps (λ (x : ℕ). x) _ (λ (ys : List ℕ) (now : ℕ). now ≡ stepped false (length ys) a.self) _
    (λ ys now x next f' j k. let e : next ≡ step false now = search rules in (e ∙ ap (step false) j ∙ stepped-more false ys x a.self, refl)) _
    (range_with_len 0 a.steps) a.self _ (YieldsList-from_range 0 a.steps a.steps refl (omega arith)).runs (stepped-none false a.self)
    c.fold-else-on.ensures.ran in
    cc (all, length-range_with_len 0 a.steps, c.if-on.false)
