-- The values that 01 marks to be proved, as one list: 38·0B and 02·FC; "or" of 00010002, and "io" of that; mu4 and mu8 of a one and zeros; mix64 of 1, 2, 4,
-- 8; the register for 16 rounds after 0, 1, 2 and 3 steps; the beginning of the mixed key of the empty key, at both ek, and of the key 0011223344556677.
-- Assumes nothing.
use mathlib.Core.Path.{◌≡◌, refl}
use mathlib.Core.List.{[], ◌∷◌, ◌++◌}
use lib.ListN.{take}
use Rattle.fox_layers.specs.Words.{joined, split, xor_over}
use Rattle.fox_layers.specs.Field.{polynomial, rest, product}
use Rattle.fox_layers.specs.Diffusion.{dot, times, mu4_rows, mu8_rows, diffused, mu4, mu8}
use Rattle.fox_rounds.specs.Rounds.{left, right, or, io}
use Rattle.fox_key_mixing.specs.Padding.{pad, padded, mixed, mkey}
use Rattle.fox_key_register.specs.Register.{seed, clocked, iterate, LFSR}
use Rattle.fox_key_nonlinear.specs.Nonlinear.{mix64}

pub known : (product 0x38 0x0B ∷ product 0x02 0xFC ∷ or 0x0001_0002 ∷ io (or 0x0001_0002) ∷ mu4 0x0100_0000 ∷ mu8 0x0100_0000_0000_0000 ∷ [])
    ++ mix64 (1 ∷ 2 ∷ 4 ∷ 8 ∷ [])
    ++ (LFSR 0 16 ∷ LFSR 1 16 ∷ LFSR 2 16 ∷ LFSR 3 16 ∷ [])
    ++ take 3 (mkey 16 [])
    ++ take 3 (mkey 32 [])
    ++ take 3 (mkey 16 (0x00 ∷ 0x11 ∷ 0x22 ∷ 0x33 ∷ 0x44 ∷ 0x55 ∷ 0x66 ∷ 0x77 ∷ []))
    ≡ 0x71
    ∷ 0x01
    ∷ 0x0002_0003
    ∷ 0x0001_0002
    ∷ 0x0101_FD02
    ∷ 0x0101_0382_0204_FC7E
    ∷ 0xE
    ∷ 0xD
    ∷ 0xB
    ∷ 0x7
    ∷ 0x6A10EF
    ∷ 0xD421DE
    ∷ 0xA843A7
    ∷ 0x508755
    ∷ 0x57
    ∷ 0x2C
    ∷ 0xD2
    ∷ 0x57
    ∷ 0x2C
    ∷ 0xD2
    ∷ 0xE0
    ∷ 0x47
    ∷ 0x05
    ∷ []
unfolding joined split xor_over polynomial rest product dot times mu4_rows mu8_rows diffused mu4 mu8 left right or io pad padded mixed mkey seed clocked
    iterate LFSR mix64
known = refl
