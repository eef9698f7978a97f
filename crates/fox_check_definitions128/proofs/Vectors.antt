-- 001's four test vectors of FOX128 sealed, one of the key schedule KS128 opened, and a tag, computed by the definitions: as many in one statement as the prover
-- computes at once.
-- Assumes nothing.
use mathlib.Core.Path.{◌≡◌, refl}
use mathlib.Core.List.{[], ◌∷◌}
use lib.ListN.{take, drop, get_or}
use Rattle.fox_layers.specs.Words.{joined, split, xor_each, xor_over}
use Rattle.fox_layers.specs.Field.{polynomial, rest, product}
use Rattle.fox_layers.specs.Substitution.{S₁, S₂, S₃, halves, whole, or4, lmid4, lmor4, sbox, sigma}
use Rattle.fox_layers.specs.Diffusion.{dot, times, mu8_rows, diffused, mu8}
use Rattle.fox_rounds.specs.Rounds.{left, right, or, io, f, f64, xor128, elmid128, or128, io128}
use Rattle.fox_layers.specs.Lists.{numbered}
use Rattle.fox_rounds.specs.Skeleton.{through, round, between, in_order, turned, seal128}
use Rattle.fox_key_mixing.specs.Padding.{pad, padded, mixed, mkey}
use Rattle.fox_key_register.specs.Register.{seed, clocked, iterate, LFSR}
use Rattle.fox_key_mixing.specs.Diversification.{stream, groups, dkey}
use Rattle.fox_key_nonlinear.specs.Nonlinear.{words, mix64, mix128, flipped, layers, number128, parts128, NL128}
use Rattle.fox_key_schedule.specs.Schedule.{ek128, round_key_at128, round_key128, round_key, round_keys}
use Rattle.fox_block.specs.Block.{state128, bytes128, state, bytes, turn_with, open_block}
use Rattle.fox_refusals.specs.Refusals.{block_size}
use Rattle.fox_tag.specs.Cmac.{reduction, doubled, subkey_of, blocks_before, block_at, whole as whole_message, filled, blocks, keyed_last, chained, cmac}
use Rattle.fox_tag.specs.Tag.{tag_with, tag}
use Rattle.fox_block.specs.Vectors.{key, plain128, sealed128, sealed_by}

pub sealed-short : sealed_by 128 plain128 (8 ∷ 16 ∷ []) ≡ take 2 sealed128
unfolding key plain128 joined split xor_each xor_over polynomial rest product S₁ S₂ S₃ halves whole or4 lmid4 lmor4 sbox sigma dot times mu8_rows
    diffused mu8 left right or io f f64 xor128 elmid128 or128 io128 numbered through round between in_order turned seal128 pad padded mixed
    mkey seed clocked iterate LFSR stream groups dkey words mix64 mix128 flipped layers number128 parts128 NL128 ek128 round_key_at128 round_key128 state128
    bytes128 state bytes turn_with round_key round_keys sealed128
sealed-short = refl

pub sealed-long : sealed_by 128 plain128 (24 ∷ 32 ∷ []) ≡ drop 2 sealed128
unfolding key plain128 joined split xor_each xor_over polynomial rest product S₁ S₂ S₃ halves whole or4 lmid4 lmor4 sbox sigma dot times mu8_rows
    diffused mu8 left right or io f f64 xor128 elmid128 or128 io128 numbered through round between in_order turned seal128 pad padded mixed
    mkey seed clocked iterate LFSR stream groups dkey words mix64 mix128 flipped layers number128 parts128 NL128 ek128 round_key_at128 round_key128 state128
    bytes128 state bytes turn_with round_key round_keys sealed128
sealed-long = refl

-- a vector of KS128
pub opened : open_block 128 16 (take 16 key) (get_or sealed128 1 []) ≡ plain128
unfolding key plain128 joined split xor_each xor_over polynomial rest product S₁ S₂ S₃ halves whole or4 lmid4 lmor4 sbox sigma dot times mu8_rows
    diffused mu8 left right or io f f64 xor128 elmid128 or128 io128 numbered through round between in_order turned seal128 pad padded mixed
    mkey seed clocked iterate LFSR stream groups dkey words mix64 mix128 flipped layers number128 parts128 NL128 ek128 round_key_at128 round_key128 state128
    bytes128 state bytes turn_with round_key round_keys sealed128
opened = refl

-- the tag of a message of one byte, with a key of 8 bytes and 12 rounds
pub tagged : tag 128 12 (0xF5 ∷ 0x73 ∷ 0x08 ∷ 0x13 ∷ 0x6A ∷ 0x2B ∷ 0x22 ∷ 0xC7 ∷ []) (0x4A ∷ [])
    ≡ 0x4E ∷ 0xBF ∷ 0xEA ∷ 0x8A ∷ 0x17 ∷ 0x50 ∷ 0x8E ∷ 0x98 ∷ 0x02 ∷ 0x0A ∷ 0x09 ∷ 0x9A ∷ 0x5C ∷ 0xAE ∷ 0xC3 ∷ 0x53 ∷ []
unfolding joined split xor_each xor_over polynomial rest product S₁ S₂ S₃ halves whole or4 lmid4 lmor4 sbox sigma dot times mu8_rows
    diffused mu8 left right or io f f64 xor128 elmid128 or128 io128 numbered through round between in_order turned seal128 pad padded mixed
    mkey seed clocked iterate LFSR stream groups dkey words mix64 mix128 flipped layers number128 parts128 NL128 ek128 round_key_at128 round_key128 state128
    bytes128 state bytes turn_with round_key round_keys block_size reduction doubled subkey_of blocks_before block_at whole_message filled blocks keyed_last chained cmac
    tag_with
tagged = refl
