-- A block sealed again and again as a state of either cipher is sealed again and again as a block of its cipher, whose left word the state has.
-- Assumes nothing.
use mathlib.Core.Bool.{true}
use mathlib.Core.Path.{◌≡◌, refl, ap, ◌∙◌}
use mathlib.Core.List.{List}
use Prim.Native.Nat.{ℕ, zero, suc}
use Rattle.fox_rounds.specs.Skeleton.{turned, seal64, seal128}
use Rattle.fox_rounds.specs.declared.fox64.Fox64.{Fox64}
use Rattle.fox_rounds.specs.declared.fox128.Fox128.{Fox128}
use Rattle.fox_rounds.specs.declared.state.State.{State}
use Rattle.fox_rounds.specs.declared.state.State.TheVariants.{Of64, Of128}
use Rattle.fox_rounds.proofs.Laws.Skeleton.{sealed-64, sealed-128}
use Rattle.fox_key_register.specs.Register.{iterate}

first : State → ℕ
first (Of64 x) = x.l
first (Of128 x) = x.ll

again-64 : (ks : List ℕ) (x : Fox64) (n : ℕ) → iterate n (turned true ks) (Of64 x) ≡ Of64 (iterate n (seal64 ks) x)
unfolding iterate
again-64 ks x zero = refl
again-64 ks x (suc n) = ap (turned true ks) (again-64 ks x n) ∙ sealed-64 ks (iterate n (seal64 ks) x)

again-128 : (ks : List ℕ) (x : Fox128) (n : ℕ) → iterate n (turned true ks) (Of128 x) ≡ Of128 (iterate n (seal128 ks) x)
unfolding iterate
again-128 ks x zero = refl
again-128 ks x (suc n) = ap (turned true ks) (again-128 ks x n) ∙ sealed-128 ks (iterate n (seal128 ks) x)

pub left-64 : (ks : List ℕ) (x : Fox64) (n : ℕ) {y : Fox64} → Of64 y ≡ iterate n (turned true ks) (Of64 x) → y.l ≡ (iterate n (seal64 ks) x).l
unfolding first iterate
left-64 ks x n e = ap first (e ∙ again-64 ks x n)

pub left-128 : (ks : List ℕ) (x : Fox128) (n : ℕ) {y : Fox128} → Of128 y ≡ iterate n (turned true ks) (Of128 x) → y.ll ≡ (iterate n (seal128 ks) x).ll
unfolding first iterate
left-128 ks x n e = ap first (e ∙ again-128 ks x n)
