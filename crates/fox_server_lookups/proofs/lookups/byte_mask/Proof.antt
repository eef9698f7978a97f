-- `lookups::byte_mask` meets its contract: the last table of the shifted S-box is the S-box, which has FF at F9.
-- Assumes nothing.
use borrow.Author.Rules.{rules}
use mathlib.Core.Path.{◌≡◌, refl, ap, ◌∙◌}
use mathlib.Core.List.{List}
use Prim.Native.Nat.{ℕ, ◌*◌, ◌-◌, ◌/◌, ◌%◌, ◌^◌}
use lib.ListN.{get_or}
use Rattle.fox_layers.specs.Substitution.{S₁, S₂, S₃, halves, whole, or4, lmid4, lmor4, sbox}
use Rattle.fox_layers.proofs.Laws.Tables.{TBS-entry}
use Rattle.fox_server_lookups.proofs.lookups.byte_mask.Statement.{statement}
use Rattle.fox_server_lookups.proofs.lookups.byte_mask.Tie as tie

ones : sbox (0x3F9 % 256) * 2 ^ (8 * (4 - 1 - 0x3F9 / 256)) ≡ 0xFF
unfolding sbox S₁ S₂ S₃ halves whole or4 lmid4 lmor4
ones = refl

returns : tie.Need-returns
returns c =
    ap (λ (s : List ℕ). get_or s 0x3F9 0) c.before.requires ∙ TBS-entry 4 0x3F9 (search rules) ∙ ones

pub byte_mask_spec : {M : Type 1} → statement M
byte_mask_spec = tie.close (tie.spec (λ c. search rules) returns)
