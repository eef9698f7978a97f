-- `fox64::or` meets its contract: the halves of a word are its quotient and its remainder by 2 ^ 16, and XOR with 16 bits changes the right half alone.
-- Assumes nothing.
use borrow.Author.Rules.{rules}
use mathlib.Core.Path.{◌≡◌, sym, ap, ◌∙◌}
use Prim.Native.Nat.{ℕ, ◌+◌, ◌*◌, ◌/◌, ◌%◌, ◌^◌, ◌<◌}
use native.Mathlib.Nat.{zero-add, zero-mul}
use native.Mathlib.Omega.{arith}
use lib.Bits.{xor_block}
use Rattle.fox_layers.specs.Words.{◌⊕◌}
use Rattle.fox_layers.proofs.Laws.Xor.{xor-zero}
use Rattle.fox_rounds.specs.Rounds.{right, or}
use Rattle.fox_rounds.proofs.Laws.Halves.{left-div}
use Rattle.fox_rounds.proofs.fox64.or.Statement.{statement}
use Rattle.fox_rounds.proofs.fox64.or.Tie as tie

-- an XOR with 16 bits changes the right half alone
to-the-right : (p q : ℕ) → p < 2 ^ 16 → q < 2 ^ 16 → (q * 2 ^ 16 + p) ⊕ q ≡ q * 2 ^ 16 + (p ⊕ q)
to-the-right p q h l =
    ap (λ (x : ℕ). (q * 2 ^ 16 + p) ⊕ x) (sym (ap (λ (x : ℕ). x + q) (zero-mul (2 ^ 16)) ∙ zero-add q))
    ∙ xor_block 16 q 0 p q h l
    ∙ ap (λ (x : ℕ). x * 2 ^ 16 + (p ⊕ q)) (xor-zero q)

returns : tie.Need-returns
unfolding or right
returns c =
    let w = c.args.w in
    to-the-right (w / 65536) (w % 65536) (omega arith) (omega arith)
    ∙ ap (λ (p : ℕ). w % 65536 * 65536 + (p ⊕ w % 65536)) (sym (left-div 16 w c.ranges.w.fits))

pub or_spec : {M : Type 1} → statement M
or_spec = tie.close (tie.spec (λ c. search rules) (λ c. search rules) returns)
