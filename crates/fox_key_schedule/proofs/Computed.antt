-- Where round keys stand, computed: one step block before the first, the first, the second, the last, and one beyond it; for step blocks of 6 and of 11 steps.
-- Assumes nothing.
use mathlib.Core.Path.{◌≡◌, refl}
use mathlib.Core.List.{[], ◌∷◌}
use Rattle.fox_layers.specs.Words.{joined}
use Rattle.fox_key_register.specs.Register.{seed, clocked, clocked_back, iterate, LFSR, step, stepped}
use Rattle.fox_key_schedule.specs.Step.{stands}

pub places : (stands 6 12 0 ∷ stands 6 12 1 ∷ stands 6 12 2 ∷ stands 6 12 12 ∷ stands 6 12 13 ∷ [])
    ≡ (0x65A836 ∷ 0x6A0CF3 ∷ 0x833D9E ∷ 0xC99BDD ∷ 0x66F5A6 ∷ [])
unfolding joined seed clocked clocked_back iterate LFSR step stepped stands
places = refl

pub long-places : (stands 11 255 0 ∷ stands 11 255 1 ∷ stands 11 255 2 ∷ stands 11 255 255 ∷ stands 11 255 256 ∷ [])
    ≡ (0xA00D51 ∷ 0x6AFF00 ∷ 0xF82A31 ∷ 0x680ED3 ∷ 0x76B3C0 ∷ [])
unfolding joined seed clocked clocked_back iterate LFSR step stepped stands
long-places = refl
