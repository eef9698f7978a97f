-- The number of a list of refusals by that of its first part, and what holds where a call of the run file meets no
-- refusal. A list's number is 0 only where each of its tests is false, and so is that of its first part.
-- Assumes nothing.
use mathlib.Core.Path.{◌≡◌, refl, ◌∙◌}
use mathlib.Core.Bool.{true, false}
use mathlib.Core.List.{List, [], ◌∷◌, ◌++◌}
use mathlib.Core.Logic.{⊎_elim}
use Prim.Native.Nat.{ℕ, ◌≤◌, ◌<◌}
use native.Mathlib.Omega.{arith}
use lib.Dec.{eqb}
use Rattle.fox_text.proofs.Laws.Tests.{by-test, neither}
use borrow.Author.Tests.{ltb-false, eqb-true, le-ltb, eq-eqb, not-false}
use Rattle.fox_refusals.specs.Refusals.{Refusal, refusal_of, differs, block_size, wrong_cipher, wrong_rounds, long_key, short_key, wrong_block_length, for_key}
use Rattle.fox_refusals.specs.Refusals.{for_turn, Keyed}
use Rattle.fox_refusals.proofs.Laws.Refusals.{Passed, numbered, passed-served, served-passed, keyed, keyed-served, turnable, turnable-served, as_before}
use Rattle.fox_run_file.specs.Sizes.{total, file_size, past_limit}
use Rattle.fox_run_file.specs.Refusals.{large_file, wrong_sizes, small_output, for_size, for_write}

-- a refusal of the first part is that of the whole; past the first part the rest decides

pub found_first : (xs ys : List Refusal) {n : ℕ} → n ≡ refusal_of xs → (n ≡ 0 → ⊥) → n ≡ refusal_of (xs ++ ys)
unfolding refusal_of
found_first [] ys e isnt = absurd (isnt e)
found_first (x ∷ xs) ys e isnt = by-test x.applies (λ t. rw t (rw t at e)) (λ t. rw t (found_first xs ys (rw t at e) isnt))

past_first : (xs ys : List Refusal) → Passed xs → refusal_of (xs ++ ys) ≡ refusal_of ys
unfolding Passed refusal_of
past_first [] ys p = refl
past_first (x ∷ xs) ys p = rw p.0 (past_first xs ys p.1)

pub found-later : (xs ys : List Refusal) → numbered xs ≡ true → refusal_of xs ≡ 0 → refusal_of (xs ++ ys) ≡ refusal_of ys
found-later xs ys some e = past_first xs ys (served-passed xs some e)

-- what holds past the refusals

pub few-digits : {c r k : ℕ} → Keyed c r k → (c < 100000) × (r < 100000)
few-digits {c} k = (⊎_elim (λ e. omega (arith, e)) (λ e. omega (arith, e)) k.cipher, omega (arith, k.high))

passed-front : (xs ys : List Refusal) → Passed (xs ++ ys) → Passed xs
unfolding Passed
passed-front [] ys p = tt
passed-front (x ∷ xs) ys p = (p.0, passed-front xs ys p.1)

pub front-served : (xs ys : List Refusal) → numbered (xs ++ ys) ≡ true → refusal_of (xs ++ ys) ≡ 0 → refusal_of xs ≡ 0
front-served xs ys some e = passed-served xs (passed-front xs ys (served-passed (xs ++ ys) some e))

-- what holds where a call that writes a file meets no refusal
pub record Writable (c r k b d : ℕ) (sizes : List ℕ) (o : ℕ) : Type 0 where
  pub keyed : Keyed c r k
  pub long : 16 ≤ k
  pub counter : b ≡ block_size c
  pub limits : past_limit c r sizes ≡ false
  pub all : total sizes ≡ d
  pub room : file_size c r sizes ≤ o

pub writable : (c r k b d : ℕ) (sizes : List ℕ) (o : ℕ) → refusal_of (for_write c r k b d sizes o) ≡ 0 → Writable c r k b d sizes o
unfolding Passed numbered for_key for_turn for_write wrong_cipher wrong_rounds long_key short_key wrong_block_length wrong_sizes small_output
writable c r k b d sizes o e =
    let p = served-passed (for_write c r k b d sizes o) refl e in
    let q = p.1.1.1.1 in
    let (limits, all) = neither (past_limit c r sizes) (differs (total sizes) d) q.1.0 in
    let key = turnable true c r k (front-served (for_turn true c r k) (wrong_block_length c b ∷ wrong_sizes c r sizes d ∷ small_output c r sizes o ∷ []) refl e) in
    record {
      keyed = key.0;
      long = key.1 refl;
      counter = eqb-true b (block_size c) (not-false (eqb b (block_size c)) q.0);
      limits = limits;
      all = eqb-true (total sizes) d (not-false (eqb (total sizes) d) all);
      room = ltb-false o (file_size c r sizes) q.1.1.0;
    }

-- and the other way about: such a call is served
pub writable-served : {c r k b d : ℕ} (sizes : List ℕ) {o : ℕ} → Writable c r k b d sizes o → refusal_of (for_write c r k b d sizes o) ≡ 0
unfolding refusal_of numbered for_key for_turn for_write wrong_cipher wrong_rounds long_key short_key wrong_block_length wrong_sizes small_output
writable-served {c} {r} {k} {b} {d} sizes {o} w =
    found-later (for_turn true c r k) (wrong_block_length c b ∷ wrong_sizes c r sizes d ∷ small_output c r sizes o ∷ []) refl
    (turnable-served true w.keyed (λ _. w.long))
    ∙ rw (eq-eqb b (block_size c) w.counter, w.limits, eq-eqb (total sizes) d w.all, le-ltb o (file_size c r sizes) w.room)

-- with a key of 16 bytes or more, writing is refused as if there were no 13
pub write-as-before : (c r k b d : ℕ) (sizes : List ℕ) (o : ℕ) → 16 ≤ k
    → refusal_of (for_write c r k b d sizes o) ≡ refusal_of (for_key c r k ++ (wrong_block_length c b ∷ wrong_sizes c r sizes d ∷ small_output c r sizes o ∷ []))
unfolding for_write
write-as-before c r k b d sizes o long = as_before true c r k _ (λ _. long)

-- the size is told exactly of a cipher and rounds that no key is refused for, and of lengths within the limits

pub tellable : {c r : ℕ} (k : ℕ) (sizes : List ℕ) → k ≤ 32 → refusal_of (for_size c r sizes) ≡ 0 → Keyed c r k × (past_limit c r sizes ≡ false)
unfolding Passed numbered for_key for_size wrong_cipher wrong_rounds long_key large_file
tellable {c} {r} k sizes short e =
    let p = served-passed (for_size c r sizes) refl e in
    (keyed c r k (passed-served (for_key c r k) (p.0, (p.1.0, (le-ltb 32 k short, tt)))), p.1.1.0)

pub tellable-served : {c r k : ℕ} (sizes : List ℕ) → Keyed c r k → past_limit c r sizes ≡ false → refusal_of (for_size c r sizes) ≡ 0
unfolding Passed refusal_of numbered for_key for_size wrong_cipher wrong_rounds long_key large_file
tellable-served {c} {r} {k} sizes h limits =
    let p = served-passed (for_key c r k) refl (keyed-served h) in
    rw (p.0, p.1.0, limits)
