-- `^` on `nibbles::Nibbles` meets its contract: XOR is taken bit by bit.
-- Assumes nothing.
use Rattle.std.proofs.Common.{◌≡◌, sym, ap, ◌∙◌, ℕ, ◌/◌, ◌%◌}
use lib.Bits.{xor_shr, xor_mod}
use Rattle.fox_layers.specs.Words.{◌⊕◌}
use Rattle.fox_layers.proofs.Laws.Bits.{spread-xor, small-xor}
use Rattle.fox_layers.proofs.Laws.Words.{length-xor_each}
use Rattle.fox_layers.proofs.nibbles.NibblesBitXor.bitxor.Goals as goal

pub returns : goal.returns
returns c ms ns h k =
    let same = h.eight ∙ sym k.eight in
    let low : (a b : ℕ) → (a ⊕ b) % 2 ≡ a % 2 ⊕ b % 2 = λ a b. xor_mod a b 1 in
    record {
      eight = length-xor_each ms ns same ∙ h.eight;
      small = small-xor ms ns h.small k.small;
      b3 = rw (h.b3, k.b3) (spread-xor (λ (n : ℕ). n / 8) (λ a b. ap (λ (n : ℕ). n % 2) (xor_shr a b 3) ∙ low (a / 8) (b / 8)) ms ns same);
      b2 = rw (h.b2, k.b2) (spread-xor (λ (n : ℕ). n / 4) (λ a b. ap (λ (n : ℕ). n % 2) (xor_shr a b 2) ∙ low (a / 4) (b / 4)) ms ns same);
      b1 = rw (h.b1, k.b1) (spread-xor (λ (n : ℕ). n / 2) (λ a b. ap (λ (n : ℕ). n % 2) (xor_shr a b 1) ∙ low (a / 2) (b / 2)) ms ns same);
      b0 = rw (h.b0, k.b0) (spread-xor (λ (n : ℕ). n) low ms ns same);
    }
