-- What the plain machine tells, computed by its definition: each refusal, counts and positions, and both sides of each limit. The bytes are those of a run.
-- Assumes nothing.
use mathlib.Core.Path.{◌≡◌, refl}
use Prim.Native.Nat.{ℕ}
use mathlib.Core.Bool.{Bool, true, false}
use mathlib.Core.List.{List, [], ◌∷◌, ◌++◌}
use lib.ListN.{replicate}
use Rattle.fox_refusals.specs.Refusals.{refusal_of, block_size, wrong_cipher, wrong_rounds, long_key, short_key, wrong_block_length, long_data, wrong_output_length}
use Rattle.fox_refusals.specs.Refusals.{past_end, for_key, for_turn, for_stretch, for_run}
use Rattle.fox_session.specs.Machine.{Machine, Call, Advance, Move, tells, after}

-- a machine of FOX64 at a position, for sealing
abbrev at : ℕ → Machine
at position = record { sealing = true; cipher = 64; rounds = 16; key_len = 16; rks = []; counter = replicate 8 0; position = position }

-- refusal, count and the next position of a call
abbrev says : Machine → Call → List ℕ
says m call = (tells m call).refusal ∷ (tells m call).count ∷ (after m call).position ∷ []

-- an advance of n bytes
abbrev bytes : ℕ → Call
bytes n = Advance (replicate n 0) (replicate n 0)

pub known :
    -- advances: the position moves on by the count; the run's end is reached, and served with no bytes
    says (at 0) (bytes 0) ++ says (at 0) (bytes 3) ++ says (at 7) (bytes 2) ++ says (at 1073741820) (bytes 4) ++ says (at 1073741824) (bytes 0)
    -- refused advances: past the end, and an output of another length, which is told first; the position stays
    ++ says (at 1073741821) (bytes 4) ++ says (at 1073741824) (bytes 1) ++ says (at 1073741825) (bytes 0)
    ++ says (at 1073741824) (Advance (0 ∷ []) []) ++ says (at 5) (Advance [] (0 ∷ []))
    -- moves: count 0; either way; to the end, and past it, where the position stays
    ++ says (at 9) (Move 2) ++ says (at 2) (Move 9) ++ says (at 9) (Move 1073741824) ++ says (at 9) (Move 1073741825)
    ++ says (at 9) (Move 18446744073709551615) ++ says (at 1073741824) (Move 0)
    -- the machine of a refused start
    ++ says (record { sealing = false; cipher = 0; rounds = 0; key_len = 0; rks = []; counter = []; position = 0 }) (Move 0)
    ≡ (0 ∷ 0 ∷ 0 ∷ []) ++ (0 ∷ 3 ∷ 3 ∷ []) ++ (0 ∷ 2 ∷ 9 ∷ []) ++ (0 ∷ 4 ∷ 1073741824 ∷ []) ++ (0 ∷ 0 ∷ 1073741824 ∷ [])
    ++ (7 ∷ 0 ∷ 1073741821 ∷ []) ++ (7 ∷ 0 ∷ 1073741824 ∷ []) ++ (7 ∷ 0 ∷ 1073741825 ∷ [])
    ++ (6 ∷ 0 ∷ 1073741824 ∷ []) ++ (6 ∷ 0 ∷ 5 ∷ [])
    ++ (0 ∷ 0 ∷ 2 ∷ []) ++ (0 ∷ 0 ∷ 9 ∷ []) ++ (0 ∷ 0 ∷ 1073741824 ∷ []) ++ (7 ∷ 0 ∷ 9 ∷ [])
    ++ (7 ∷ 0 ∷ 9 ∷ []) ++ (0 ∷ 0 ∷ 0 ∷ [])
    ++ (1 ∷ 0 ∷ 0 ∷ [])
unfolding refusal_of block_size wrong_cipher wrong_rounds long_key short_key wrong_block_length long_data wrong_output_length past_end for_key for_turn for_stretch for_run
known = refl

-- a machine that was started for sealing or for opening, whose key has so many bytes
abbrev of : Bool → ℕ → ℕ → ℕ → List ℕ → ℕ → Machine
of sealing cipher rounds key_len counter position =
    record { sealing = sealing; cipher = cipher; rounds = rounds; key_len = key_len; rks = []; counter = counter; position = position }

-- the other refusals, in their order; 13 on sealing alone
pub known-first :
    (tells (of true 65 11 33 [] 0) (bytes 1)).refusal ∷ (tells (of true 64 11 33 [] 0) (bytes 1)).refusal ∷ (tells (of true 64 12 33 [] 0) (bytes 1)).refusal
    ∷ (tells (of true 64 12 15 [] 1073741825) (bytes 1)).refusal ∷ (tells (of true 64 12 0 (replicate 8 0) 0) (Move 1073741825)).refusal
    ∷ (tells (of true 64 12 32 [] 1073741825) (bytes 1)).refusal ∷ (tells (of false 64 12 15 [] 1073741825) (bytes 1)).refusal
    ∷ (tells (of true 128 12 32 (replicate 16 0) 1073741825) (bytes 1)).refusal ∷ (tells (of true 128 12 16 (replicate 16 0) 0) (bytes 1)).refusal
    ∷ (tells (of false 128 12 15 (replicate 16 0) 0) (bytes 1)).refusal ∷ (tells (of false 64 12 0 (replicate 8 0) 0) (Move 1073741825)).refusal ∷ []
    ≡ 1 ∷ 2 ∷ 3 ∷ 13 ∷ 13 ∷ 4 ∷ 4 ∷ 7 ∷ 0 ∷ 0 ∷ 7 ∷ []
unfolding refusal_of block_size wrong_cipher wrong_rounds long_key short_key wrong_block_length long_data wrong_output_length past_end for_key for_turn for_stretch for_run
known-first = refl

-- 65,536 bytes in a call, and one more, which is told before the output's length and the run's end
pub known-long :
    (tells (at 0) (bytes 65536)).refusal ∷ (tells (at 0) (bytes 65537)).refusal ∷ (tells (at 1073741824) (Advance (replicate 65537 0) [])).refusal ∷ []
    ≡ 0 ∷ 5 ∷ 5 ∷ []
unfolding refusal_of block_size wrong_cipher wrong_rounds long_key short_key wrong_block_length long_data wrong_output_length past_end for_key for_turn for_stretch for_run
known-long = refl
