-- 001's four test vectors of FOX64 sealed, and one of each of the key schedules KS64 and KS64h opened, and a tag, computed by the definitions: as many in
-- one statement as the prover computes at once.
-- Assumes nothing.
use mathlib.Core.Path.{◌≡◌, refl}
use mathlib.Core.List.{[], ◌∷◌}
use lib.ListN.{take, get_or}
use Rattle.fox_layers.specs.Words.{joined, split, xor_each, xor_over}
use Rattle.fox_layers.specs.Field.{polynomial, rest, product}
use Rattle.fox_layers.specs.Substitution.{S₁, S₂, S₃, halves, whole, or4, lmid4, lmor4, sbox, sigma}
use Rattle.fox_layers.specs.Diffusion.{dot, times, mu4_rows, diffused, mu4}
use Rattle.fox_rounds.specs.Rounds.{left, right, or, io, f, f32, lmid64, or64, io64}
use Rattle.fox_layers.specs.Lists.{numbered}
use Rattle.fox_rounds.specs.Skeleton.{through, round, between, in_order, turned, seal64}
use Rattle.fox_key_mixing.specs.Padding.{pad, padded, mixed, mkey}
use Rattle.fox_key_register.specs.Register.{seed, clocked, iterate, LFSR}
use Rattle.fox_key_mixing.specs.Diversification.{stream, groups, dkey}
use Rattle.fox_key_nonlinear.specs.Nonlinear.{words, mix64, mix64h, flipped, layers, number64, NL64, NL64h}
use Rattle.fox_key_schedule.specs.Schedule.{ek64, round_key_at64, round_key64, round_key, round_keys}
use Rattle.fox_block.specs.Block.{state64, bytes64, state, bytes, turn_with, open_block}
use Rattle.fox_refusals.specs.Refusals.{block_size}
use Rattle.fox_tag.specs.Cmac.{reduction, doubled, subkey_of, blocks_before, block_at, whole as whole_message, filled, blocks, keyed_last, chained, cmac}
use Rattle.fox_tag.specs.Tag.{tag_with, tag}
use Rattle.fox_block.specs.Vectors.{key, plain64, sealed64, sealed_by}

pub sealed : sealed_by 64 plain64 (8 ∷ 16 ∷ 24 ∷ 32 ∷ []) ≡ sealed64
unfolding key plain64 joined split xor_each xor_over polynomial rest product S₁ S₂ S₃ halves whole or4 lmid4 lmor4 sbox sigma dot times mu4_rows
    diffused mu4 left right or io f f32 lmid64 or64 io64 numbered through round between in_order turned seal64 pad padded mixed mkey seed
    clocked iterate LFSR stream groups dkey words mix64 mix64h flipped layers number64 NL64 NL64h ek64 round_key_at64 round_key64 state64 bytes64
    state bytes turn_with round_key round_keys sealed64
sealed = refl

-- a vector of KS64, and one of KS64h
pub opened : open_block 64 16 (take 8 key) (get_or sealed64 0 []) ∷ open_block 64 16 (take 24 key) (get_or sealed64 2 []) ∷ [] ≡ plain64 ∷ plain64 ∷ []
unfolding key plain64 joined split xor_each xor_over polynomial rest product S₁ S₂ S₃ halves whole or4 lmid4 lmor4 sbox sigma dot times mu4_rows
    diffused mu4 left right or io f f32 lmid64 or64 io64 numbered through round between in_order turned seal64 pad padded mixed mkey seed
    clocked iterate LFSR stream groups dkey words mix64 mix64h flipped layers number64 NL64 NL64h ek64 round_key_at64 round_key64 state64 bytes64
    state bytes turn_with round_key round_keys sealed64
opened = refl

-- the tag of a message of two blocks, the second not whole, with the empty key and 12 rounds
pub tagged : tag 64 12 [] (0x18 ∷ 0xA8 ∷ 0xE3 ∷ 0x69 ∷ 0x84 ∷ 0x1C ∷ 0xC1 ∷ 0x99 ∷ 0x9C ∷ 0x5A ∷ 0x6A ∷ 0x24 ∷ 0xC1 ∷ 0xD8 ∷ 0xC9 ∷ [])
    ≡ 0xFA ∷ 0xDC ∷ 0xB2 ∷ 0x6B ∷ 0x2B ∷ 0x4C ∷ 0x09 ∷ 0x66 ∷ []
unfolding joined split xor_each xor_over polynomial rest product S₁ S₂ S₃ halves whole or4 lmid4 lmor4 sbox sigma dot times mu4_rows
    diffused mu4 left right or io f f32 lmid64 or64 io64 numbered through round between in_order turned seal64 pad padded mixed mkey seed
    clocked iterate LFSR stream groups dkey words mix64 mix64h flipped layers number64 NL64 NL64h ek64 round_key_at64 round_key64 state64 bytes64
    state bytes turn_with round_key round_keys block_size reduction doubled subkey_of blocks_before block_at filled blocks whole_message keyed_last chained cmac tag_with
tagged = refl
