-- `sealed_by` meets its contract: folding over as many numbers as there are blocks seals so many times.
-- Assumes nothing.
use Rattle.std.proofs.Common.{rules, arith, ◌≡◌, ℕ, List, length, refl, sym, ap, ◌∙◌, subst, true}
use mathlib.Core.List.{[], ◌∷◌, ◌++◌}
use lib.ListN.{length-append}
use Rattle.std.proofs.lemmas.Fn.{fold_over}
use Rattle.std.proofs.lemmas.Iterator.{YieldsList-from_range}
use Rattle.std.proofs.lemmas.List.FromFn.{length-range_with_len}
use Rattle.std.proofs.iter.Yields.{nat_range_steps}
use Rattle.std.specs.List.{range_with_len}
use Rattle.fox_rounds.specs.Skeleton.{turned}
use Rattle.fox_server_rounds.specs.Keys.{keys_by}
use Rattle.fox_key_register.specs.Register.{iterate}
use Rattle.fox_key_register.proofs.Laws.Register.{iterate-suc}
use Rattle.fox_check_probe.proofs.sealed_by.Goals as goal

-- one number more is one time more
more : {A : Type 0} (ys : List ℕ) (i : ℕ) (f : A → A) (x : A) → f (iterate (length ys) f x) ≡ iterate (length (ys ++ i ∷ [])) f x
more ys i f x = sym (rw length-append (iterate-suc (length ys) f x))

pub returns : goal.returns
unfolding iterate
returns g c =
    let a = c.args in
    let one = turned true (keys_by g.B.Tabled.key_in a.engine.now.keys.now a.engine.now.rounds) in
    let all : g.B.Block.state c.fold.result ≡ iterate (length (range_with_len 0 a.blocks)) one (g.B.Block.state a.x) =
    fold_over nat_range_steps (λ (x : ℕ). x) _ (λ (ys : List ℕ) (y : _). g.B.Block.state y ≡ iterate (length ys) one (g.B.Block.state a.x)) _
    (λ ys y i next f' j k. let e : g.B.Block.state next ≡ one (g.B.Block.state y) = search rules in (e ∙ ap one j ∙ more ys i one (g.B.Block.state a.x), search rules)) _
    (range_with_len 0 a.blocks) a.x _ (YieldsList-from_range 0 a.blocks a.blocks refl (omega arith)).runs refl c.fold.ensures.ran in
    subst (λ (n : ℕ). g.B.Block.state c.fold.result ≡ iterate n one (g.B.Block.state a.x)) (length-range_with_len 0 a.blocks) all
