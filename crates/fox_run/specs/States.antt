-- The key stream as the code computes it: the first counter block as a state, counted on word by word, and sealed.
-- Assumes nothing.
use Rattle.std.specs.Prelude.{ℕ, ◌+◌, ◌/◌, ◌%◌, ◌^◌, true, List}
use Rattle.fox_rounds.specs.Skeleton.{size, turned}
use Rattle.fox_rounds.specs.declared.fox64.Fox64.{Fox64}
use Rattle.fox_rounds.specs.declared.fox128.Fox128.{Fox128}
use Rattle.fox_rounds.specs.declared.state.State.{State}
use Rattle.fox_rounds.specs.declared.state.State.TheVariants.{Of64, Of128}
use Rattle.fox_block.specs.Block.{bytes}
use Rattle.fox_run.specs.Run.{streamed}

-- what is carried out of a word when n is added to it
abbrev pub carry : ℕ → ℕ → ℕ
carry w n = (w + n) / 2 ^ 32

-- the state of counter block number i, from that of the first: i is added to the last word, and to each word before it what is carried out of the next
unfoldable pub counted64 : Fox64 → ℕ → Fox64
counted64 x i = record { l = (x.l + carry x.r i) % 2 ^ 32; r = (x.r + i) % 2 ^ 32 }

unfoldable pub counted128 : Fox128 → ℕ → Fox128
counted128 x i =
    let a = carry x.rr i in
    let b = carry x.rl a in
    let c = carry x.lr b in
    record { ll = (x.ll + c) % 2 ^ 32; lr = (x.lr + b) % 2 ^ 32; rl = (x.rl + a) % 2 ^ 32; rr = (x.rr + i) % 2 ^ 32 }

unfoldable pub counted : State → ℕ → State
counted (Of64 x) i = Of64 (counted64 x i)
counted (Of128 x) i = Of128 (counted128 x i)

-- the sealed counter block number i
unfoldable pub sealed : List ℕ → State → ℕ → List ℕ
sealed rks x i = bytes (turned true rks (counted x i))

unfoldable pub stream : List ℕ → State → ℕ → ℕ
stream rks x = streamed (size x) (sealed rks x)
