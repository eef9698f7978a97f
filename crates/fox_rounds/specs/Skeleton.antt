-- The skeleton (001 §2.1): rounds over a list of round keys, with "or" or "io" after every round but the last.
-- Assumes nothing.
use Rattle.std.specs.Prelude.{ℕ, ◌-◌, Bool, true, false, List, [], ◌∷◌, reverse}
use Rattle.fox_rounds.specs.Rounds.{lmid64, or64, io64, elmid128, or128, io128}
use Rattle.fox_rounds.specs.declared.fox64.Fox64.{Fox64}
use Rattle.fox_rounds.specs.declared.fox128.Fox128.{Fox128}
use Rattle.fox_rounds.specs.declared.state.State.{State}
use Rattle.fox_rounds.specs.declared.state.State.TheVariants.{Of64, Of128}

-- a round for each round key, with `between` after every round but the last
unfoldable pub through : {S : Type 0} → (ℕ → S → S) → (S → S) → List ℕ → S → S
through round between [] x = x
through round between (k ∷ []) x = round k x
through round between (k ∷ l ∷ ks) x = through round between (l ∷ ks) (between (round k x))

-- the block size in bytes, of a state of either cipher
unfoldable pub size : State → ℕ
size (Of64 x) = 8
size (Of128 x) = 16

-- a round of either cipher without "or" or "io"
unfoldable pub round : ℕ → State → State
round rk (Of64 x) = Of64 (lmid64 rk x)
round rk (Of128 x) = Of128 (elmid128 rk x)

-- what follows every round but the last: "or" in sealing, "io" in opening
unfoldable pub between : Bool → State → State
between true (Of64 x) = Of64 (or64 x)
between true (Of128 x) = Of128 (or128 x)
between false (Of64 x) = Of64 (io64 x)
between false (Of128 x) = Of128 (io128 x)

-- sealing takes the round keys in their order, opening from the last to the first
unfoldable pub in_order : Bool → List ℕ → List ℕ
in_order true rks = rks
in_order false rks = reverse rks

-- the number of the round key that round number i of m takes, both counted from 0
unfoldable pub place : Bool → ℕ → ℕ → ℕ
place true m i = i
place false m i = m - 1 - i

-- §2.1.1 and §2.1.2: a state sealed or opened
unfoldable pub turned : Bool → List ℕ → State → State
turned sealing rks x = through round (between sealing) (in_order sealing rks) x

-- §2.1.1 and §2.1.2, sealing alone, on the states of each cipher: the non-linear parts seal with it (§2.3.10 to §2.3.12), and four blocks sealed side by side
-- are held to it
unfoldable pub seal64 : List ℕ → Fox64 → Fox64
seal64 rks x = through lmid64 or64 rks x

unfoldable pub seal128 : List ℕ → Fox128 → Fox128
seal128 rks x = through elmid128 or128 rks x
