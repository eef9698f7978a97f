-- The published examples of CMAC (SP 800-38B, Appendix D: AES-128 for blocks of 16 bytes, three-key TDEA for blocks of 8), computed by the definition: the two
-- subkeys, and the tags of four messages of each, empty, whole and not. The cipher is a table of the blocks that the examples seal. And doubling where one bit
-- is set, and the blocks of short messages.
-- Assumes nothing.
use mathlib.Core.Path.{◌≡◌, refl}
use mathlib.Core.Bool.{true, false, cond}
use mathlib.Core.List.{List, [], ◌∷◌, ◌++◌, map}
use Prim.Native.Nat.{ℕ}
use lib.Dec.{eqb}
use lib.ListN.{take, replicate}
use Rattle.fox_layers.specs.Words.{joined, split, xor_each}
use Rattle.fox_layers.specs.Lists.{numbered}
use Rattle.fox_tag.specs.Cmac.{reduction, doubled, subkey_of, blocks_before, block_at, whole, filled, blocks, keyed_last, chained, cmac}

-- what stands after w in a list of pairs
unfoldable pub listed : List ℕ → ℕ → ℕ
listed [] w = 0
listed (a ∷ []) w = 0
listed (a ∷ b ∷ rest) w = cond (eqb a w) b (listed rest w)

abbrev sealed_by : ℕ → List ℕ → List ℕ → List ℕ
sealed_by B table block = split B (listed table (joined block))

-- the examples' message
abbrev message : List ℕ
message =
    split 64 0x6bc1bee22e409f96e93d7e117393172aae2d8a571e03ac9c9eb76fac45af8e5130c81c46a35ce411e5fbc1191a0a52eff69f2445df4f9b17ad2b417be66c3710

abbrev aes : List ℕ
aes =
    0
    ∷ 0x7df76b0c1ab899b33e42f047b91b546f
    ∷ 0x77ddac306ae266ccf90bc11ee46d513b
    ∷ 0xbb1d6929e95937287fa37d129b756746
    ∷ 0x902f68fa1b31acf095b89e9e01a5bff4
    ∷ 0x070a16b46b4d4144f79bdd9dd04a287c
    ∷ 0x6bc1bee22e409f96e93d7e117393172a
    ∷ 0x3ad77bb40d7a3660a89ecaf32466ef97
    ∷ 0x94faf1e313799afc3629a55f61c961c6
    ∷ 0xb148c17f309ee692287ae57cf12add49
    ∷ 0x765d7109f920644f5171246215478c72
    ∷ 0xdfa66747de9ae63030ca32611497c827
    ∷ 0x8180dd3993c20283cd812465eb208fa6
    ∷ 0xc93d11bfaf08c5dc4d90b37b4dee002b
    ∷ 0xc44ce3e245366dad9c3e128fd9b49fe5
    ∷ 0x51f0bebf7e3b9d92fc49741779363cfe
    ∷ []

abbrev tdea : List ℕ
tdea =
    0
    ∷ 0xc8cc74e98a7329a2
    ∷ 0xa331d3a629cca6a5
    ∷ 0xb7a688e122ffaf95
    ∷ 0xfa5957313aa6ccc9
    ∷ 0x8e8f293136283797
    ∷ 0x6bc1bee22e409f96
    ∷ 0xa51c527725632ccf
    ∷ 0x4c212c6656f03be5
    ∷ 0xdaede062dfd9e40f
    ∷ 0x57f1b993761542aa
    ∷ 0x743ddbe0ce2dc2ed
    ∷ 0x74c06a35c1da4893
    ∷ 0x48b9ca9cebb2490c
    ∷ 0x47964ce3bafb9402
    ∷ 0x33e6b1092400eae5
    ∷ []

-- K1 and K2
pub subkeys :
    subkey_of 16 (split 16 0x7df76b0c1ab899b33e42f047b91b546f) true
    ∷ subkey_of 16 (split 16 0x7df76b0c1ab899b33e42f047b91b546f) false
    ∷ subkey_of 8 (split 8 0xc8cc74e98a7329a2) true
    ∷ subkey_of 8 (split 8 0xc8cc74e98a7329a2) false
    ∷ []
    ≡ split 16 0xfbeed618357133667c85e08f7236a8de
    ∷ split 16 0xf7ddac306ae266ccf90bc11ee46d513b
    ∷ split 8 0x9198e9d314e6535f
    ∷ split 8 0x2331d3a629cca6a5
    ∷ []
unfolding joined split reduction doubled subkey_of
subkeys = refl

-- messages of 0, 16, 40 and 64 bytes for AES-128, and of 0, 8, 20 and 32 for TDEA
pub tags :
    map (λ n. cmac 16 (sealed_by 16 aes) (take n message)) (0 ∷ 16 ∷ 40 ∷ 64 ∷ [])
    ++ map (λ n. cmac 8 (sealed_by 8 tdea) (take n message)) (0 ∷ 8 ∷ 20 ∷ 32 ∷ [])
    ≡ split 16 0xbb1d6929e95937287fa37d129b756746
    ∷ split 16 0x070a16b46b4d4144f79bdd9dd04a287c
    ∷ split 16 0xdfa66747de9ae63030ca32611497c827
    ∷ split 16 0x51f0bebf7e3b9d92fc49741779363cfe
    ∷ split 8 0xb7a688e122ffaf95
    ∷ split 8 0x8e8f293136283797
    ∷ split 8 0x743ddbe0ce2dc2ed
    ∷ split 8 0x33e6b1092400eae5
    ∷ []
unfolding joined split xor_each numbered reduction doubled subkey_of blocks_before block_at whole filled blocks keyed_last chained cmac listed
tags = refl

-- the top bit leaves, the bit below it does not, and the carry goes from the last byte to the first
pub one_bit : doubled 8 (0x80 ∷ replicate 7 0) ∷ doubled 16 (0x80 ∷ replicate 15 0) ∷ doubled 8 (0x40 ∷ replicate 7 0) ∷ doubled 16 (0x40 ∷ replicate 15 0)
    ∷ doubled 8 (replicate 7 0 ++ (0x80 ∷ [])) ∷ doubled 16 (replicate 8 0 ++ (0x80 ∷ replicate 7 0)) ∷ doubled 8 (replicate 8 0xFF) ∷ []
    ≡ (replicate 7 0 ++ (0x1B ∷ []))
    ∷ (replicate 15 0 ++ (0x87 ∷ []))
    ∷ (0x80 ∷ replicate 7 0)
    ∷ (0x80 ∷ replicate 15 0)
    ∷ (replicate 6 0 ++ (0x01 ∷ 0x00 ∷ []))
    ∷ (replicate 7 0 ++ (0x01 ∷ replicate 8 0))
    ∷ (replicate 7 0xFF ++ (0xE5 ∷ []))
    ∷ []
unfolding joined split reduction doubled
one_bit = refl

-- messages of no byte, of one, of a whole block less one, of one block, of one more, and of two blocks
pub short : blocks 8 [] ∷ blocks 8 (1 ∷ []) ∷ blocks 8 (replicate 7 1) ∷ blocks 8 (replicate 8 1) ∷ blocks 8 (replicate 9 1) ∷ blocks 8 (replicate 16 1) ∷ []
    ≡ ((0x80 ∷ replicate 7 0) ∷ [])
    ∷ ((1 ∷ 0x80 ∷ replicate 6 0) ∷ [])
    ∷ ((replicate 7 1 ++ (0x80 ∷ [])) ∷ [])
    ∷ (replicate 8 1 ∷ [])
    ∷ (replicate 8 1 ∷ (1 ∷ 0x80 ∷ replicate 6 0) ∷ [])
    ∷ (replicate 8 1 ∷ replicate 8 1 ∷ [])
    ∷ []
unfolding numbered blocks_before block_at whole filled blocks
short = refl

pub whole-or-not : whole 8 [] ∷ whole 8 (replicate 7 1) ∷ whole 8 (replicate 8 1) ∷ whole 8 (replicate 9 1) ∷ whole 16 (replicate 32 1) ∷ []
    ≡ false ∷ false ∷ true ∷ false ∷ true ∷ []
unfolding blocks_before block_at whole
whole-or-not = refl
