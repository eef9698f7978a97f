-- Opening undoes sealing, proved once: for any round that undoes itself, any two steps between rounds of which one undoes the other, and any list of round
-- keys. FOX64 and FOX128, and both directions, are cases of it.
-- Assumes nothing.
use mathlib.Core.Path.{◌≡◌, refl, sym, ap, ◌∙◌, subst}
use mathlib.Core.Bool.{Bool, true, false, not}
use mathlib.Core.List.{List, [], ◌∷◌, ◌++◌, reverse, reverse-cons, reverse-reverse}
use Prim.Native.Nat.{ℕ}
use Rattle.fox_rounds.specs.Skeleton.{through, round, between, in_order, turned, seal128}
use Rattle.fox_rounds.specs.declared.fox128.Fox128.{Fox128}
use Rattle.fox_rounds.specs.declared.state.State.{State}
use Rattle.fox_rounds.specs.declared.state.State.TheVariants.{Of64, Of128}
use Rattle.fox_rounds.proofs.Laws.Skeleton.{through-snoc, sealed-128}
use Rattle.fox_rounds.proofs.Laws.Rounds.{Words64, Words128, lmid64-words, lmid64-twice, or64-words, io64-words, io64-or64, or64-io64}
use Rattle.fox_rounds.proofs.Laws.Rounds.{elmid128-words, elmid128-twice, or128-words, io128-words, io128-or128, or128-io128}

-- a round, a step between rounds and the step that undoes it, on the states that have the right width
pub record Undone {S : Type 0} (Wide : S → Type 0) (round : ℕ → S → S) (there back : S → S) : Type 0 where
  pub round-wide : (k : ℕ) (x : S) → Wide x → Wide (round k x)
  pub there-wide : (x : S) → Wide x → Wide (there x)
  pub twice : (k : ℕ) (x : S) → round k (round k x) ≡ x
  pub undone : (x : S) → Wide x → back (there x) ≡ x

-- a list that ends in an element has a first one, so the law above holds of a reversed list too
through-reverse : {S : Type 0} (round : ℕ → S → S) (between : S → S) (l : ℕ) (ls : List ℕ) (k : ℕ) (x : S)
    → through round between (reverse (l ∷ ls) ++ (k ∷ [])) x ≡ round k (between (through round between (reverse (l ∷ ls)) x))
through-reverse round between l ls k x = shown (reverse ls) (reverse-cons l ls)
  where
    shown : (rs : List ℕ) → reverse (l ∷ ls) ≡ rs ++ (l ∷ [])
        → through round between (reverse (l ∷ ls) ++ (k ∷ [])) x ≡ round k (between (through round between (reverse (l ∷ ls)) x))
    shown [] e = rw e (through-snoc round between l [] k x)
    shown (r ∷ rs) e = rw e (through-snoc round between r (rs ++ (l ∷ [])) k x)

pub undo : {S : Type 0} {Wide : S → Type 0} {round : ℕ → S → S} {there back : S → S} → Undone Wide round there back
    → (ks : List ℕ) (x : S) → Wide x → through round back (reverse ks) (through round there ks x) ≡ x
unfolding through
undo u [] x w = refl
undo u (k ∷ []) x w = u.twice k x
undo {round = round} {there = there} {back = back} u (k ∷ l ∷ ks) x w =
    let y = through round there (l ∷ ks) (there (round k x)) in
    ap (λ (rs : List ℕ). through round back rs y) (reverse-cons k (l ∷ ks))
    ∙ through-reverse round back l ks k y
    ∙ ap (λ (z : _). round k (back z)) (undo u (l ∷ ks) (there (round k x)) (u.there-wide (round k x) (u.round-wide k x w)))
    ∙ ap (round k) (u.undone (round k x) (u.round-wide k x w))
    ∙ u.twice k x

-- rounds do not leave the width, however many they are
through-wide : {S : Type 0} {Wide : S → Type 0} {round : ℕ → S → S} {there back : S → S} → Undone Wide round there back
    → (ks : List ℕ) (x : S) → Wide x → Wide (through round there ks x)
unfolding through
through-wide u [] x w = w
through-wide u (k ∷ []) x w = u.round-wide k x w
through-wide {round = round} {there = there} u (k ∷ l ∷ ks) x w =
    through-wide u (l ∷ ks) (there (round k x)) (u.there-wide (round k x) (u.round-wide k x w))

-- a state of FOX64, or else of FOX128, whose words have 32 bits
unfoldable pub Fits : Bool → State → Type 0
Fits true (Of64 x) = Words64 x
Fits true (Of128 x) = ⊥
Fits false (Of64 x) = ⊥
Fits false (Of128 x) = Words128 x

pub round-fits : (b : Bool) (k : ℕ) (x : State) → Fits b x → Fits b (round k x)
unfolding Fits round
round-fits true k (Of64 x) w = lmid64-words k x w
round-fits true k (Of128 x) w = w
round-fits false k (Of64 x) w = w
round-fits false k (Of128 x) w = elmid128-words k x w

round-twice : (k : ℕ) (x : State) → round k (round k x) ≡ x
unfolding round
round-twice k (Of64 x) = ap Of64 (lmid64-twice k x)
round-twice k (Of128 x) = ap Of128 (elmid128-twice k x)

pub between-fits : (d b : Bool) (x : State) → Fits b x → Fits b (between d x)
unfolding Fits between
between-fits true true (Of64 x) w = or64-words x w
between-fits true true (Of128 x) w = w
between-fits true false (Of64 x) w = w
between-fits true false (Of128 x) w = or128-words x w
between-fits false true (Of64 x) w = io64-words x w
between-fits false true (Of128 x) w = w
between-fits false false (Of64 x) w = w
between-fits false false (Of128 x) w = io128-words x w

between-undone : (d b : Bool) (x : State) → Fits b x → between (not d) (between d x) ≡ x
unfolding Fits between
between-undone true true (Of64 x) w = ap Of64 (io64-or64 x w)
between-undone true true (Of128 x) w = absurd w
between-undone true false (Of64 x) w = absurd w
between-undone true false (Of128 x) w = ap Of128 (io128-or128 x w)
between-undone false true (Of64 x) w = ap Of64 (or64-io64 x w)
between-undone false true (Of128 x) w = absurd w
between-undone false false (Of64 x) w = absurd w
between-undone false false (Of128 x) w = ap Of128 (or128-io128 x w)

either-direction : (d b : Bool) → Undone (Fits b) round (between d) (between (not d))
either-direction d b = record { round-wide = round-fits b; there-wide = between-fits d b; twice = round-twice; undone = between-undone d b }

-- a state that fits, sealed or opened, fits
pub turned-fits : (d b : Bool) (ks : List ℕ) (x : State) → Fits b x → Fits b (turned d ks x)
unfolding turned
turned-fits d b ks x w = through-wide (either-direction d b) (in_order d ks) x w

-- opening undoes sealing, and sealing opening
pub turned-back : (d b : Bool) (ks : List ℕ) (x : State) → Fits b x → turned (not d) ks (turned d ks x) ≡ x
unfolding turned in_order
turned-back true b ks x w = undo (either-direction true b) ks x w
turned-back false b ks x w =
    ap (λ (ls : List ℕ). through round (between true) ls (through round (between false) (reverse ks) x)) (sym (reverse-reverse ks))
    ∙ undo (either-direction false b) (reverse ks) x w

pub seal128-words : (ks : List ℕ) (x : Fox128) → Words128 x → Words128 (seal128 ks x)
unfolding Fits
seal128-words ks x w = subst (Fits false) (sealed-128 ks x) (turned-fits true false ks (Of128 x) w)
