-- The definitions at values that the specification states or that follow from one of its rows: a product (001 §1.6.2), 02 and its inverse, the S-box at 4C
-- (001 §2.2.6), and the first and the last column of mu4 and of mu8. The prover computes them, as one list.
-- Assumes nothing.
use mathlib.Core.Path.{◌≡◌, refl}
use mathlib.Core.List.{[], ◌∷◌}
use Rattle.fox_layers.specs.Words.{joined, split, xor_over}
use Rattle.fox_layers.specs.Field.{polynomial, rest, product}
use Rattle.fox_layers.specs.Substitution.{S₁, S₂, S₃, halves, whole, or4, lmid4, lmor4, sbox}
use Rattle.fox_layers.specs.Diffusion.{dot, times, mu4_rows, mu8_rows, diffused, mu4, mu8}

pub known : product 0x38 0x0B ∷ product 0x02 0xFC ∷ sbox 0x4C ∷ mu4 0x0100_0000 ∷ mu4 0x0000_0001 ∷ mu8 0x0100_0000_0000_0000 ∷ mu8 0x0000_0000_0000_0001 ∷ []
    ≡ 0x71 ∷ 0x01 ∷ 0x15 ∷ 0x0101_FD02 ∷ 0x0201_0101 ∷ 0x0101_0382_0204_FC7E ∷ 0x0301_0101_0101_0101 ∷ []
unfolding joined split xor_over polynomial rest product S₁ S₂ S₃ halves whole or4 lmid4 lmor4 sbox dot times mu4_rows mu8_rows diffused mu4 mu8
known = refl
