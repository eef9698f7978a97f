-- The order of refusals and their limits, computed by the definitions and stated as lists: each pair of neighbouring faults at once, of which the first is
-- given, for a key, a block, a stretch, a counter block and a tag; and the last value that is served beside the first that is not. A tag is made and tested
-- under keys of every length.
-- Assumes nothing.
use Rattle.std.proofs.Common.{◌≡◌, ℕ, Bool, true, false, List, [], ◌∷◌, ◌++◌, replicate, refl}
use Rattle.fox_refusals.specs.Refusals.{Refusal, refusal_of, block_size, wrong_cipher, wrong_rounds, long_key, short_key, wrong_block_length, long_data}
use Rattle.fox_refusals.specs.Refusals.{wrong_output_length, past_end, for_key, for_turn, for_block, for_stretch, for_run, for_counter, long_message, wrong_tag_length}
use Rattle.fox_refusals.specs.Refusals.{same, other_tag, for_tag, for_tag_test}

-- blocks, sealed or opened: 1 before 2 before 3 before 4 before 6; 8 bytes for FOX64 and 16 for FOX128
abbrev blocks : Bool → List ℕ
blocks d =
    (refusal_of (for_block d 65 11 32 8 8) ∷ refusal_of (for_block d 64 256 33 8 8) ∷ refusal_of (for_block d 64 12 33 7 7) ∷ refusal_of (for_block d 64 12 32 7 8) ∷ [])
    ++ (refusal_of (for_block d 64 12 32 8 7) ∷ refusal_of (for_block d 64 12 32 8 9) ∷ refusal_of (for_block d 64 12 32 9 9) ∷ refusal_of (for_block d 128 12 32 8 8) ∷ [])
    ++ (refusal_of (for_block d 64 12 16 8 8) ∷ refusal_of (for_block d 128 12 32 16 16) ∷ [])

-- stretches, sealed or opened: 1 before 2 before 3 before 4 before 5 before 6 before 7; 65,536 bytes in a call, and a run of 1,073,741,824
abbrev stretches : Bool → List ℕ
stretches d =
    (refusal_of (for_run d 65 11 32 8 0 0 0) ∷ refusal_of (for_run d 64 256 33 8 0 0 0) ∷ [])
    ++ (refusal_of (for_run d 64 12 33 7 0 0 0) ∷ refusal_of (for_run d 64 12 32 7 0 65537 65537) ∷ refusal_of (for_run d 64 12 32 8 0 65537 65536) ∷ [])
    ++ (refusal_of (for_run d 64 12 32 8 1073741824 1 0) ∷ refusal_of (for_run d 64 12 32 8 1073741824 1 1) ∷ refusal_of (for_run d 64 12 32 8 1073741825 0 0) ∷ [])
    ++ (refusal_of (for_run d 64 12 32 8 18446744073709551615 1 1) ∷ refusal_of (for_run d 64 12 32 8 1073741824 0 0) ∷ [])
    ++ (refusal_of (for_run d 128 255 16 16 1073676288 65536 65536) ∷ refusal_of (for_run d 128 255 16 16 1073676289 65536 65536) ∷ [])

-- keys under 16 bytes, and of 16, on a block and on a stretch with nothing else wrong; and where rounds, block or counter block are wrong too
abbrev short : Bool → List ℕ
short d =
    (refusal_of (for_block d 64 12 0 8 8) ∷ refusal_of (for_block d 128 255 15 16 16) ∷ refusal_of (for_block d 64 12 16 8 8) ∷ refusal_of (for_block d 128 12 17 16 16) ∷ [])
    ++ (refusal_of (for_run d 64 12 0 8 0 0 0) ∷ refusal_of (for_run d 128 255 15 16 0 1 1) ∷ refusal_of (for_run d 64 12 16 8 0 1 1) ∷ refusal_of (for_run d 128 12 17 16 0 1 1) ∷ [])
    ++ (refusal_of (for_block d 65 12 15 8 8) ∷ refusal_of (for_block d 64 11 15 8 8) ∷ refusal_of (for_block d 64 12 15 7 8) ∷ [])
    ++ (refusal_of (for_run d 65 12 15 8 0 0 0) ∷ refusal_of (for_run d 64 256 15 8 0 0 0) ∷ refusal_of (for_run d 64 12 15 7 1073741825 65537 0) ∷ [])

pub known :
    -- a key: 1 before 2 before 3; cipher 64 and 128 alone, rounds 12 to 255, keys of 0 to 32 bytes
    (refusal_of (for_key 65 11 32) ∷ refusal_of (for_key 64 256 33) ∷ refusal_of (for_key 64 255 33) ∷ [])
    ++ (refusal_of (for_key 0 12 0) ∷ refusal_of (for_key 63 12 0) ∷ refusal_of (for_key 65 12 0) ∷ refusal_of (for_key 127 12 0) ∷ refusal_of (for_key 129 12 0) ∷ [])
    ++ (refusal_of (for_key 64 11 32) ∷ refusal_of (for_key 128 256 0) ∷ refusal_of (for_key 128 12 33) ∷ [])
    ++ (refusal_of (for_key 64 12 0) ∷ refusal_of (for_key 64 255 32) ∷ refusal_of (for_key 128 12 16) ∷ refusal_of (for_key 128 255 32) ∷ [])
    ++ blocks true ++ blocks false ++ stretches true ++ stretches false
    -- 13 is given to sealing alone, below 16 bytes, after 1 and 2 and before 4 to 7
    ++ short true ++ short false
    ≡ (1 ∷ 2 ∷ 3 ∷ [])
    ++ (1 ∷ 1 ∷ 1 ∷ 1 ∷ 1 ∷ [])
    ++ (2 ∷ 2 ∷ 3 ∷ [])
    ++ (0 ∷ 0 ∷ 0 ∷ 0 ∷ [])
    ++ (1 ∷ 2 ∷ 3 ∷ 4 ∷ []) ++ (6 ∷ 6 ∷ 4 ∷ 4 ∷ []) ++ (0 ∷ 0 ∷ [])
    ++ (1 ∷ 2 ∷ 3 ∷ 4 ∷ []) ++ (6 ∷ 6 ∷ 4 ∷ 4 ∷ []) ++ (0 ∷ 0 ∷ [])
    ++ (1 ∷ 2 ∷ []) ++ (3 ∷ 4 ∷ 5 ∷ []) ++ (6 ∷ 7 ∷ 7 ∷ []) ++ (7 ∷ 0 ∷ []) ++ (0 ∷ 7 ∷ [])
    ++ (1 ∷ 2 ∷ []) ++ (3 ∷ 4 ∷ 5 ∷ []) ++ (6 ∷ 7 ∷ 7 ∷ []) ++ (7 ∷ 0 ∷ []) ++ (0 ∷ 7 ∷ [])
    ++ (13 ∷ 13 ∷ 0 ∷ 0 ∷ []) ++ (13 ∷ 13 ∷ 0 ∷ 0 ∷ []) ++ (1 ∷ 2 ∷ 13 ∷ []) ++ (1 ∷ 2 ∷ 13 ∷ [])
    ++ (0 ∷ 0 ∷ 0 ∷ 0 ∷ []) ++ (0 ∷ 0 ∷ 0 ∷ 0 ∷ []) ++ (1 ∷ 2 ∷ 4 ∷ []) ++ (1 ∷ 2 ∷ 4 ∷ [])
unfolding refusal_of block_size wrong_cipher wrong_rounds long_key short_key wrong_block_length long_data wrong_output_length past_end for_key for_turn for_block for_stretch
    for_run
known = refl

-- the numbers of a list, in its order
unfoldable pub numbers : List Refusal → List ℕ
numbers [] = []
numbers (x ∷ xs) = x.number ∷ numbers xs

-- the order in which a call looks for what it refuses, whatever it is given: no key is both too long and too short, so that no answer tells 3 and 13 apart
pub known-order : (d : Bool) (c r k b n i o : ℕ)
    → numbers (for_block d c r k b o) ++ numbers (for_run d c r k b n i o) ≡ (1 ∷ 2 ∷ 3 ∷ 13 ∷ 4 ∷ 6 ∷ []) ++ (1 ∷ 2 ∷ 3 ∷ 13 ∷ 4 ∷ 5 ∷ 6 ∷ 7 ∷ [])
unfolding numbers wrong_cipher wrong_rounds long_key short_key wrong_block_length long_data wrong_output_length past_end for_key for_turn for_block for_stretch for_run
known-order d c r k b n i o = refl

pub known-counters :
    -- making a counter block: 1 before 4; cipher 64 and 128 alone, room of 8 and of 16 bytes
    (refusal_of (for_counter 65 7) ∷ refusal_of (for_counter 0 16) ∷ refusal_of (for_counter 63 8) ∷ refusal_of (for_counter 127 16) ∷ refusal_of (for_counter 129 16) ∷ [])
    ++ (refusal_of (for_counter 64 0) ∷ refusal_of (for_counter 64 7) ∷ refusal_of (for_counter 64 9) ∷ refusal_of (for_counter 64 16) ∷ [])
    ++ (refusal_of (for_counter 128 8) ∷ refusal_of (for_counter 128 15) ∷ refusal_of (for_counter 128 17) ∷ [])
    ++ (refusal_of (for_counter 64 8) ∷ refusal_of (for_counter 128 16) ∷ [])
    ≡ (1 ∷ 1 ∷ 1 ∷ 1 ∷ 1 ∷ [])
    ++ (4 ∷ 4 ∷ 4 ∷ 4 ∷ [])
    ++ (4 ∷ 4 ∷ 4 ∷ [])
    ++ (0 ∷ 0 ∷ [])
unfolding refusal_of block_size wrong_cipher wrong_block_length for_counter
known-counters = refl

pub known-tags :
    -- making a tag: 1 before 2 before 3 before 5 before 6; messages of 0 to 1,073,741,824 bytes, a buffer of B bytes
    (refusal_of (for_tag true 65 11 32 0 8) ∷ refusal_of (for_tag true 64 256 33 0 8) ∷ refusal_of (for_tag true 64 12 33 1073741825 8) ∷ [])
    ++ (refusal_of (for_tag true 64 12 32 1073741825 7) ∷ refusal_of (for_tag true 64 12 32 0 7) ∷ refusal_of (for_tag true 64 12 32 0 9) ∷ [])
    ++ (refusal_of (for_tag true 128 12 32 0 8) ∷ refusal_of (for_tag true 64 12 0 1073741824 8) ∷ refusal_of (for_tag true 128 255 15 0 16) ∷ [])
    -- testing one: 1 before 2 before 3 before 5 before 9 before 10; the right tag, and one that differs in its last byte
    ++ (refusal_of (for_tag_test 65 11 32 0 [] []) ∷ refusal_of (for_tag_test 64 256 33 0 [] []) ∷ refusal_of (for_tag_test 64 12 33 1073741825 [] []) ∷ [])
    ++ (refusal_of (for_tag_test 64 12 32 1073741825 (replicate 8 1) (replicate 7 1)) ∷ refusal_of (for_tag_test 64 12 32 0 (replicate 8 1) (replicate 7 2)) ∷ [])
    ++ (refusal_of (for_tag_test 64 12 32 0 (replicate 9 1) (replicate 9 1)) ∷ refusal_of (for_tag_test 128 12 32 0 (replicate 8 1) (replicate 8 1)) ∷ [])
    ++ (refusal_of (for_tag_test 64 12 0 1073741824 (replicate 8 1) (replicate 8 1)) ∷ refusal_of (for_tag_test 128 255 32 0 (replicate 16 1) (replicate 16 1)) ∷ [])
    ++ (refusal_of (for_tag_test 64 12 32 0 (replicate 8 1) (replicate 7 1 ++ (0 ∷ []))) ∷ [])
    ≡ (1 ∷ 2 ∷ 3 ∷ [])
    ++ (5 ∷ 6 ∷ 6 ∷ [])
    ++ (6 ∷ 0 ∷ 0 ∷ [])
    ++ (1 ∷ 2 ∷ 3 ∷ [])
    ++ (5 ∷ 9 ∷ [])
    ++ (9 ∷ 9 ∷ [])
    ++ (0 ∷ 0 ∷ [])
    ++ (10 ∷ [])
unfolding refusal_of block_size wrong_cipher wrong_rounds long_key short_key long_message wrong_tag_length same other_tag for_key for_turn for_tag for_tag_test
known-tags = refl
