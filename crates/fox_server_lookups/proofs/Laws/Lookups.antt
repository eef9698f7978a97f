-- The bytes that a lookup reads, those of each half of a word of eight bytes; and the entry of the first table.
-- Assumes nothing.
use mathlib.Core.Path.{◌≡◌, sym, ap, ◌∙◌}
use mathlib.Core.List.{List, [], ◌∷◌}
use Prim.Native.Nat.{ℕ, ◌*◌, ◌/◌, ◌%◌, ◌^◌}
use native.Mathlib.Nat.{zero-add, div-add-mod', div-div-eq-div-mul}
use lib.ListN.{get_or}
use Rattle.fox_layers.specs.Words.{split}
use Rattle.fox_layers.proofs.Laws.Words.{split-4, split-above}
use Rattle.fox_server_lookups.specs.Entry.{entry}

-- table number 0 is read without adding its place
pub first : (t : List ℕ) (x : ℕ) → get_or t x 0 ≡ entry t 0 x
first t x = ap (λ (n : ℕ). get_or t n 0) (sym (zero-add x))

pub split-left : (w : ℕ)
    → split 4 (w / 2 ^ 32) ≡ w / 0x100000000000000 % 256 ∷ w / 0x1000000000000 % 256 ∷ w / 0x10000000000 % 256 ∷ w / 0x100000000 % 256 ∷ []
split-left w =
    let at : (m : ℕ) → w / 2 ^ 32 / m ≡ w / (2 ^ 32 * m) = λ m. div-div-eq-div-mul w (2 ^ 32) m in
    split-4 (w / 2 ^ 32) ∙ (λ i. at 0x1000000 i % 256 ∷ at 0x10000 i % 256 ∷ at 0x100 i % 256 ∷ w / 0x100000000 % 256 ∷ [])

pub split-right : (w : ℕ) → split 4 (w % 2 ^ 32) ≡ w / 0x1000000 % 256 ∷ w / 0x10000 % 256 ∷ w / 0x100 % 256 ∷ w % 256 ∷ []
split-right w = cc (split-above 4 (w / 2 ^ 32) (w % 2 ^ 32), div-add-mod' w (2 ^ 32)) ∙ split-4 w
