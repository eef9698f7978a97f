-- The numbers of the calls' lists as code finds them, one test after the other.
-- Assumes nothing.
use Rattle.std.proofs.Common.{◌≡◌, ℕ, true, false, cond, ◌||◌, ltb, List, [], ◌∷◌, Some, Err, sym, refl, ◌∙◌, arith}
use Rattle.fox_text.proofs.Laws.Tests.{by-test}
use Rattle.fox_refusals.specs.Answer.{number_of, answer_of}
use Rattle.fox_refusals.specs.declared.refusal.Refusal as code
use Rattle.fox_refusals.proofs.Laws.Reply.{number_not_zero}
use Rattle.fox_run_file.specs.Parts.{Sized, MayWrite}
use Rattle.fox_run_file.specs.declared.sizes.Sizes.{Sizes}
use Rattle.fox_run_file.proofs.Laws.Sizes.{told_in}
use Rattle.fox_refusals.specs.Refusals.{refusal_of, or_else, differs, block_size, for_key, for_turn}
use Rattle.fox_refusals.specs.Refusals.{wrong_cipher, wrong_rounds, long_key, short_key, wrong_block_length}
use Rattle.fox_refusals.proofs.Laws.Refusals.{numbered, chain, chained}
use Rattle.fox_run_file.specs.Sizes.{total, file_size, past_limit}
use Rattle.fox_run_file.specs.Refusals.{large_file, wrong_sizes, small_output, for_size, for_write}

pub size_tests : (c r : ℕ) (sizes : List ℕ) → refusal_of (for_size c r sizes) ≡ or_else (refusal_of (for_key c r 0)) (past_limit c r sizes) 12
unfolding numbered chain refusal_of for_key for_size wrong_cipher wrong_rounds long_key large_file
size_tests c r sizes = sym (chained (wrong_cipher c ∷ wrong_rounds r ∷ []) (large_file c r sizes ∷ []) refl)

pub write_tests : (c r k b d : ℕ) (sizes : List ℕ) (o : ℕ)
    → refusal_of (for_write c r k b d sizes o)
    ≡ or_else (or_else (or_else (refusal_of (for_turn true c r k)) (differs b (block_size c)) 4) (past_limit c r sizes || differs (total sizes) d) 12)
    (ltb o (file_size c r sizes)) 6
unfolding numbered chain for_key for_turn for_write wrong_cipher wrong_rounds long_key short_key wrong_block_length wrong_sizes small_output
write_tests c r k b d sizes o =
    sym (chained (for_turn true c r k) (wrong_block_length c b ∷ wrong_sizes c r sizes d ∷ small_output c r sizes o ∷ []) refl)

-- past all other tests, an output that is too short is refused
pub small_room : (c r k b d : ℕ) (sizes : List ℕ) (o : ℕ) {s : Sizes} (e : code.Refusal) → refusal_of (for_turn true c r k) ≡ 0
    → ◌≡◌ {A = ℕ} (cond (differs b (block_size c)) 4 0) 0 → Sized c r sizes (Some s) → ◌≡◌ {A = ℕ} (cond (differs s.total d) 12 0) 0
    → number_of e ≡ cond (ltb o s.size) 6 0 → MayWrite c r k b d sizes o (answer_of (Err e))
unfolding or_else
small_room c r k b d sizes o {s} e key counter sized sum room =
    let (limits, total-is, size-is) = told_in sized in
    let block : differs b (block_size c) ≡ false = by-test (differs b (block_size c)) (λ t. absurd (omega (arith, rw t at counter))) (λ t. t) in
    let all : differs s.total d ≡ false = by-test (differs s.total d) (λ t. absurd (omega (arith, rw t at sum))) (λ t. t) in
    let short : ltb o s.size ≡ true = by-test (ltb o s.size) (λ t. t) (λ t. absurd (number_not_zero e (rw t at room))) in
    let is : refusal_of (for_write c r k b d sizes o) ≡ 6 =
    rw (write_tests c r k b d sizes o, key, block, limits, ← total-is, all, ← size-is, short) refl in
    record { refusal = rw short at room ∙ sym is; count = rw is refl }
