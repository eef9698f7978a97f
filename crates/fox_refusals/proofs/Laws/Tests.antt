-- Each list's number as code finds it: the number of the list that it begins with, and then one test after the other.
-- Assumes nothing.
use Rattle.std.proofs.Common.{◌≡◌, ℕ, Bool, true, false, cond, [], ◌∷◌, sym, refl}
use Rattle.fox_refusals.specs.Refusals.{refusal_of, or_else, above, differs, block_size, for_key, for_turn, for_block, for_stretch, for_run, for_counter, for_tag}
use Rattle.fox_refusals.specs.Refusals.{wrong_cipher, wrong_rounds, long_key, short_key, wrong_block_length, long_data, wrong_output_length, past_end}
use Rattle.fox_refusals.specs.Refusals.{long_message, wrong_tag_length}
use Rattle.fox_refusals.proofs.Laws.Refusals.{numbered, chain, chained}

pub key_tests : (c r k : ℕ)
    → refusal_of (for_key c r k) ≡ or_else (or_else (cond (wrong_cipher c).applies 1 0) (wrong_rounds r).applies 2) (above 32 k) 3
unfolding numbered chain or_else refusal_of for_key wrong_cipher wrong_rounds long_key
key_tests c r k = sym (chained [] (for_key c r k) refl)

pub turn_tests : (sealing : Bool) (c r k : ℕ)
    → refusal_of (for_turn sealing c r k) ≡ or_else (refusal_of (for_key c r k)) (short_key sealing k).applies 13
unfolding numbered chain for_key for_turn wrong_cipher wrong_rounds long_key short_key
turn_tests sealing c r k = sym (chained (for_key c r k) (short_key sealing k ∷ []) refl)

pub block_tests : (sealing : Bool) (c r k b o : ℕ)
    → refusal_of (for_block sealing c r k b o) ≡ or_else (or_else (refusal_of (for_turn sealing c r k)) (differs b (block_size c)) 4) (differs o b) 6
unfolding numbered chain for_key for_turn for_block wrong_cipher wrong_rounds long_key short_key wrong_block_length wrong_output_length
block_tests sealing c r k b o = sym (chained (for_turn sealing c r k) (wrong_block_length c b ∷ wrong_output_length b o ∷ []) refl)

pub run_tests : (sealing : Bool) (c r k b n d o : ℕ)
    → refusal_of (for_run sealing c r k b n d o)
    ≡ or_else (or_else (or_else (or_else (refusal_of (for_turn sealing c r k)) (differs b (block_size c)) 4) (above 65536 d) 5) (differs o d) 6)
    (past_end n d).applies 7
unfolding numbered chain for_key for_turn for_stretch for_run wrong_cipher wrong_rounds long_key short_key wrong_block_length long_data wrong_output_length past_end
run_tests sealing c r k b n d o = sym (chained (for_turn sealing c r k) (for_stretch c b n d o) refl)

pub counter_tests : (c n : ℕ) → refusal_of (for_counter c n) ≡ or_else (cond (wrong_cipher c).applies 1 0) (differs n (block_size c)) 4
unfolding numbered chain or_else refusal_of for_counter wrong_cipher wrong_block_length
counter_tests c n = sym (chained [] (for_counter c n) refl)

pub tag_tests : (making : Bool) (c r k m t : ℕ)
    → refusal_of (for_tag making c r k m t)
    ≡ or_else (or_else (refusal_of (for_key c r k)) (above 1073741824 m) 5) (differs t (block_size c)) (cond making 6 9)
unfolding numbered chain for_key for_tag wrong_cipher wrong_rounds long_key long_message wrong_tag_length
tag_tests true c r k m t = sym (chained (for_key c r k) (long_message m ∷ wrong_tag_length true c t ∷ []) refl)
tag_tests false c r k m t = sym (chained (for_key c r k) (long_message m ∷ wrong_tag_length false c t ∷ []) refl)
