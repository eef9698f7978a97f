-- A round of FOX64, word by word, as code has it: the round key's left word, which it has none of, does not matter.
-- Assumes nothing.
use mathlib.Core.Path.{◌≡◌, ap, sym, ◌∙◌}
use Prim.Native.Nat.{ℕ, ◌+◌, ◌*◌, ◌^◌}
use Rattle.std.specs.Prelude.{true}
use Rattle.fox_layers.specs.Words.{◌⊕◌}
use Rattle.fox_rounds.specs.Rounds.{or, f32, lmid64, or64}
use Rattle.fox_rounds.specs.Skeleton.{round, between}
use Rattle.fox_rounds.specs.declared.fox64.Fox64.{Fox64}
use Rattle.fox_rounds.specs.declared.state.State.TheVariants.{Of64}
use Rattle.fox_rounds.proofs.Laws.Rounds.{lmid64-low}

pub lmid-words : (left right : ℕ) (x : Fox64) {f : ℕ} → f ≡ f32 (x.l ⊕ x.r) right
    → Of64 (record { l = x.l ⊕ f; r = x.r ⊕ f }) ≡ round (left * 2 ^ 64 + right) (Of64 x)
unfolding lmid64 round
lmid-words left right x e = ap Of64 ((λ i. record { l = x.l ⊕ e i; r = x.r ⊕ e i }) ∙ sym (lmid64-low left right x))

pub lmor-words : (left right : ℕ) (x : Fox64) {f l : ℕ} → f ≡ f32 (x.l ⊕ x.r) right → l ≡ or (x.l ⊕ f)
    → Of64 (record { l = l; r = x.r ⊕ f }) ≡ between true (round (left * 2 ^ 64 + right) (Of64 x))
unfolding or64 between
lmor-words left right x {f} e g =
    ap Of64 (λ i. record { l = g i; r = x.r ⊕ f }) ∙ ap (between true) (lmid-words left right x e)
