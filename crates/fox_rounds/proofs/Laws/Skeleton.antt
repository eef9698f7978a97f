-- Rounds over a numbered list of round keys, one at a time, as a loop does them; and the list read backwards.
-- Assumes nothing.
use mathlib.Core.Path.{◌≡◌, refl, sym, ap, ap₂, ◌∙◌}
use mathlib.Core.Bool.{Bool, true, false}
use mathlib.Core.List.{List, [], ◌∷◌, ◌++◌}
use Prim.Native.Nat.{ℕ, zero, suc, ◌+◌, ◌-◌, ◌<◌, ◌≤◌}
use native.Mathlib.Nat.{zero-add, not-suc-le-zero}
use native.Mathlib.Omega.{arith}
use Rattle.fox_layers.proofs.Laws.Lists.{numbered-snoc, reversed}
use Rattle.fox_rounds.specs.Rounds.{lmid64, or64, elmid128, or128}
use Rattle.fox_layers.specs.Lists.{numbered}
use Rattle.fox_rounds.specs.Skeleton.{through, round, between, in_order, place, turned, seal64, seal128}
use Rattle.fox_rounds.specs.declared.fox64.Fox64.{Fox64}
use Rattle.fox_rounds.specs.declared.fox128.Fox128.{Fox128}
use Rattle.fox_rounds.specs.declared.state.State.{State}
use Rattle.fox_rounds.specs.declared.state.State.TheVariants.{Of64, Of128}

module _ {S : Type 0} (round : ℕ → S → S) (between : S → S) (k : ℕ → ℕ) where
  -- a round that is not the last
  pub turn : (n i : ℕ) (x : S) → i < n
      → through round between (numbered k (suc (n - i)) i) x
      ≡ through round between (numbered k (suc (n - (i + 1))) (i + 1)) (between (round (k i) x))
  unfolding through numbered
  turn n i x h =
      let more : n - i ≡ suc (n - (i + 1)) = omega arith in
      let next : i + 1 ≡ suc i = omega arith in
      ap (λ (m : ℕ). through round between (numbered k (suc m) i) x) more
      ∙ ap (λ (j : ℕ). through round between (numbered k (suc (n - (i + 1))) j) (between (round (k i) x))) (sym next)

  -- the last round
  pub last : (n : ℕ) (x : S) → through round between (numbered k (suc (n - n)) n) x ≡ round (k n) x
  unfolding through numbered
  last n x =
      let none : n - n ≡ zero = omega arith in
      ap (λ (m : ℕ). through round between (numbered k (suc m) n) x) none

  -- the state of a loop over the n rounds before the last: i of them are done, and the rounds that are left turn y into what all n + 1 rounds turn x into
  abbrev pub RoundsLeft : ℕ → S → ℕ → S → Type 0
  RoundsLeft n x i y = through round between (numbered k (suc (n - i)) i) y ≡ through round between (numbered k (suc n) 0) x

  pub rounds_left-first : (n : ℕ) (x : S) → RoundsLeft n x 0 x
  rounds_left-first n x =
      let all : n - 0 ≡ n = omega arith in
      ap (λ (m : ℕ). through round between (numbered k (suc m) 0) x) all

  pub rounds_left-on : (n i : ℕ) (x y z : S) → i < n → RoundsLeft n x i y → z ≡ between (round (k i) y) → RoundsLeft n x (i + 1) z
  rounds_left-on n i x y z h g e =
      ap (through round between (numbered k (suc (n - (i + 1))) (i + 1))) e ∙ sym (turn n i y h) ∙ g

  pub rounds_left-last : (m i : ℕ) (x y z : S) → 1 ≤ m → i ≤ m - 1 → m - 1 ≤ i → RoundsLeft (m - 1) x i y → z ≡ round (k (m - 1)) y
      → z ≡ through round between (numbered k m 0) x
  rounds_left-last m i x y z some low high g e =
      let here : m - 1 ≡ i = omega arith in
      let whole : suc (m - 1) ≡ m = omega arith in
      e
      ∙ sym (last (m - 1) y)
      ∙ ap (λ (j : ℕ). through round between (numbered k (suc (m - 1 - j)) j) y) here
      ∙ g
      ∙ ap (λ (j : ℕ). through round between (numbered k j 0) x) whole

-- a round and the "or" or "io" after it, as code does them, before the rounds that are left
pub one_more : {S : Type 0} (round : ℕ → S → S) (between : S → S) (k l : ℕ) (ks : List ℕ) {x y z : S}
    → y ≡ round k x → z ≡ between y → through round between (l ∷ ks) z ≡ through round between (k ∷ l ∷ ks) x
unfolding through
one_more round between k l ks done next = ap (through round between (l ∷ ks)) (next ∙ ap between done)

-- the round keys in the order of sealing, or of opening
pub in_order-numbered : (d : Bool) (k : ℕ → ℕ) (m : ℕ) → 1 ≤ m → in_order d (numbered k m 0) ≡ numbered (λ (i : ℕ). k (place d m i)) m 0
unfolding in_order place
in_order-numbered true k m some = refl
in_order-numbered false k m some = reversed k m some

-- the same for a block sealed or opened in m rounds: i of them are done, and the rounds that are left turn y into what all turn x into
module _ (d : Bool) (k : ℕ → ℕ) (m : ℕ) where
  abbrev pub TurnLeft : State → ℕ → State → Type 0
  TurnLeft x i y = RoundsLeft round (between d) (λ (j : ℕ). k (place d m j)) (m - 1) x i y

  pub turn_left-first : (x : State) → TurnLeft x 0 x
  turn_left-first x = rounds_left-first round (between d) (λ (j : ℕ). k (place d m j)) (m - 1) x

  pub turn_left-on : (i : ℕ) (x y z : State) → i < m - 1 → TurnLeft x i y → z ≡ between d (round (k (place d m i)) y) → TurnLeft x (i + 1) z
  turn_left-on i x y z h t e = rounds_left-on round (between d) (λ (j : ℕ). k (place d m j)) (m - 1) i x y z h t e

  pub turn_left-last : (i : ℕ) (x y z : State) → 1 ≤ m → i ≤ m - 1 → m - 1 ≤ i → TurnLeft x i y → z ≡ round (k (place d m (m - 1))) y
      → z ≡ turned d (numbered k m 0) x
  unfolding turned
  turn_left-last i x y z some low high t e =
      rounds_left-last round (between d) (λ (j : ℕ). k (place d m j)) m i x y z some low high t e
      ∙ ap (λ (ks : List ℕ). through round (between d) ks x) (sym (in_order-numbered d k m some))

-- FOX64 and FOX128 sealed are cases of it
pub sealed-64 : (ks : List ℕ) (x : Fox64) → turned true ks (Of64 x) ≡ Of64 (seal64 ks x)
unfolding through round between turned in_order seal64
sealed-64 ks x = on ks x
  where
    on : (ls : List ℕ) (y : Fox64) → through round (between true) ls (Of64 y) ≡ Of64 (through lmid64 or64 ls y)
    on [] y = refl
    on (k ∷ []) y = refl
    on (k ∷ l ∷ ls) y = on (l ∷ ls) (or64 (lmid64 k y))

pub sealed-128 : (ks : List ℕ) (x : Fox128) → turned true ks (Of128 x) ≡ Of128 (seal128 ks x)
unfolding through round between turned in_order seal128
sealed-128 ks x = on ks x
  where
    on : (ls : List ℕ) (y : Fox128) → through round (between true) ls (Of128 y) ≡ Of128 (through elmid128 or128 ls y)
    on [] y = refl
    on (k ∷ []) y = refl
    on (k ∷ l ∷ ls) y = on (l ∷ ls) (or128 (elmid128 k y))

-- what no round and no step between rounds changes, stays as it is through all of them
pub through-keeps : {S A : Type 0} (f : S → A) (step : ℕ → S → S) (after : S → S) → ((k : ℕ) (x : S) → f (step k x) ≡ f x) → ((x : S) → f (after x) ≡ f x)
    → (ks : List ℕ) (x : S) → f (through step after ks x) ≡ f x
unfolding through
through-keeps f step after s a [] x = refl
through-keeps f step after s a (k ∷ []) x = s k x
through-keeps f step after s a (k ∷ l ∷ ks) x = through-keeps f step after s a (l ∷ ks) (after (step k x)) ∙ a (step k x) ∙ s k x

-- one more round key at the end
pub through-snoc : {S : Type 0} (round : ℕ → S → S) (between : S → S) (l : ℕ) (ls : List ℕ) (k : ℕ) (x : S)
    → through round between ((l ∷ ls) ++ (k ∷ [])) x ≡ round k (between (through round between (l ∷ ls) x))
unfolding through
through-snoc round between l [] k x = refl
through-snoc round between l (m ∷ ms) k x = through-snoc round between m ms k (between (round l x))

-- the state of a loop over all m rounds of a block sealed or opened: y is x after the rounds with the first i round keys of that direction
module _ (d : Bool) (k : ℕ → ℕ) (m : ℕ) where
  abbrev pub TurnDone : State → ℕ → State → Type 0
  TurnDone x i y = y ≡ through round (between d) (numbered (λ (j : ℕ). k (place d m j)) i 0) x

  pub turn_done-none : (x : State) → TurnDone x 0 x
  unfolding through numbered
  turn_done-none x = refl

  pub turn_done-one : (x y z : State) (i : ℕ) → i ≡ 0 → TurnDone x i y → z ≡ round (k (place d m i)) y → TurnDone x (i + 1) z
  unfolding through numbered
  turn_done-one x y z i none t e =
      let keys : ℕ → ℕ = λ j. k (place d m j) in
      e
      ∙ ap₂ (λ (j : ℕ) (w : State). round (keys j) w) none (t ∙ ap (λ (j : ℕ). through round (between d) (numbered keys j 0) x) none)
      ∙ ap (λ (j : ℕ). through round (between d) (numbered keys (j + 1) 0) x) (sym none)

  pub turn_done-more : (x y z : State) (i : ℕ) → 0 < i → TurnDone x i y → z ≡ round (k (place d m i)) (between d y) → TurnDone x (i + 1) z
  unfolding numbered
  turn_done-more x y z zero some t e = absurd (not-suc-le-zero some)
  turn_done-more x y z (suc i) some t e =
      let keys : ℕ → ℕ = λ j. k (place d m j) in
      let next : suc (suc i) ≡ suc i + 1 = omega arith in
      e
      ∙ ap (λ (w : State). round (keys (suc i)) (between d w)) t
      ∙ sym (through-snoc round (between d) (keys 0) (numbered keys i 1) (keys (suc i)) x)
      ∙ ap (λ (ks : List ℕ). through round (between d) ks x)
      (sym (numbered-snoc keys (suc i) 0 ∙ ap (λ (j : ℕ). numbered keys (suc i) 0 ++ (keys j ∷ [])) (zero-add (suc i))))
      ∙ ap (λ (j : ℕ). through round (between d) (numbered keys j 0) x) next

  pub turn_done-all : (x y : State) {i : ℕ} → 1 ≤ m → i ≡ m → TurnDone x i y → y ≡ turned d (numbered k m 0) x
  unfolding turned
  turn_done-all x y some all t =
      t ∙ ap (λ (j : ℕ). through round (between d) (numbered (λ (j : ℕ). k (place d m j)) j 0) x) all
      ∙ ap (λ (ks : List ℕ). through round (between d) ks x) (sym (in_order-numbered d k m some))
