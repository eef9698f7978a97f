-- The first refusal of a list, test by test, and what holds where none applies. A list's number is 0 exactly where every test of it is false, since no
-- refusal has the number 0; and each test is true exactly where its fact fails.
-- Assumes nothing.
use Rattle.std.proofs.Common.{◌≡◌, ℕ, ◌+◌, ◌<◌, ◌≤◌, Bool, true, false, cond, not, eqb, ltb, ◌⊎◌, List, [], ◌∷◌, ◌++◌, length, sym, refl, ap, ◌∙◌, ap₂, inl, inr, ⊎_elim, true≢false, arith, ltb-false, le-ltb, lt-ltb, eq-eqb, ne_eqb, eqb-true}
use borrow.Author.Tests.{eqb-false, not-false}
use Rattle.fox_layers.proofs.Laws.Lists.{by-test}
use Rattle.fox_refusals.specs.Refusals.{Refusal, refusal_of, First, here, later, or_else, differs, block_size, wrong_cipher, wrong_rounds, long_key}
use Rattle.fox_refusals.specs.Refusals.{short_key, wrong_block_length, long_data, wrong_output_length, past_end, for_key, for_turn, for_block, for_stretch, for_run}
use Rattle.fox_refusals.specs.Refusals.{Keyed, LongFor, Blocked, Stretched, long_message, wrong_tag_length, same, other_tag, for_tag, for_tag_test, Tagged}
use Rattle.fox_refusals.specs.Refusals.{for_counter}

-- no test of the list applies
unfoldable pub Passed : List Refusal → Type 0
Passed [] = Unit {0}
Passed (x ∷ xs) = (x.applies ≡ false) × Passed xs

-- no refusal of the list has the number 0, which is the number where none applies; this is computed
unfoldable pub numbered : List Refusal → Bool
numbered [] = true
numbered (x ∷ xs) = cond (eqb x.number 0) false (numbered xs)

-- the tests of a list taken one after the other, as code does it, from the refusal found so far
unfoldable pub chain : ℕ → List Refusal → ℕ
chain r [] = r
chain r (x ∷ xs) = chain (or_else r x.applies x.number) xs

-- the number of a list whose first test applies

refusal-here : (x : Refusal) (xs : List Refusal) → x.applies ≡ true → refusal_of (x ∷ xs) ≡ x.number
unfolding refusal_of
refusal-here x xs e = ap (λ (t : Bool). cond t x.number (refusal_of xs)) e

refusal-later : (x : Refusal) (xs : List Refusal) → x.applies ≡ false → refusal_of (x ∷ xs) ≡ refusal_of xs
unfolding refusal_of
refusal-later x xs e = ap (λ (t : Bool). cond t x.number (refusal_of xs)) e

first-numbered : (t u : Bool) → cond t false u ≡ true → (t ≡ false) × (u ≡ true)
first-numbered true u e = absurd (true≢false (sym e))
first-numbered false u e = (refl, e)

-- the first refusal's number is not 0, and neither is any of the rest
not-zero : (x : Refusal) (xs : List Refusal) → numbered (x ∷ xs) ≡ true → (x.number ≡ 0 → ⊥) × (numbered xs ≡ true)
unfolding numbered
not-zero x xs n = let h = first-numbered (eqb x.number 0) (numbered xs) n in (eqb-false x.number 0 h.0, h.1)

-- a whole list: no test applies exactly where its number is 0

pub passed-served : (xs : List Refusal) → Passed xs → refusal_of xs ≡ 0
unfolding Passed refusal_of
passed-served [] p = refl
passed-served (x ∷ xs) p = refusal-later x xs p.0 ∙ passed-served xs p.1

pub served-passed : (xs : List Refusal) → numbered xs ≡ true → refusal_of xs ≡ 0 → Passed xs
unfolding Passed
served-passed [] n e = tt
served-passed (x ∷ xs) n e =
    let h = not-zero x xs n in
    by-test x.applies (λ t. absurd (h.0 (sym (refusal-here x xs t) ∙ e))) (λ t. (t, served-passed xs h.1 (sym (refusal-later x xs t) ∙ e)))

-- a number other than 0 is given exactly when it is that of the first refusal that applies

pub first-given : {n : ℕ} {xs : List Refusal} → First n xs → refusal_of xs ≡ n
first-given (here {x} {xs} t e) = refusal-here x xs t ∙ e
first-given (later {x} {xs} t f) = refusal-later x xs t ∙ first-given f

pub given-first : (n : ℕ) (xs : List Refusal) → refusal_of xs ≡ n → (n ≡ 0 → ⊥) → First n xs
unfolding refusal_of
given-first n [] e isnt = absurd (isnt (sym e))
given-first n (x ∷ xs) e isnt =
    by-test x.applies (λ t. here t (sym (refusal-here x xs t) ∙ e)) (λ t. later t (given-first n xs (sym (refusal-later x xs t) ∙ e) isnt))

-- a refusal that was found stays, whatever tests follow
chain-stays : (r : ℕ) (xs : List Refusal) → (r ≡ 0 → ⊥) → chain r xs ≡ r
unfolding chain or_else
chain-stays r [] h = refl
chain-stays r (x ∷ xs) h =
    ap (λ (t : Bool). chain (cond t (cond x.applies x.number 0) r) xs) (ne_eqb r 0 h) ∙ chain-stays r xs h

chain_first : (xs : List Refusal) → numbered xs ≡ true → chain 0 xs ≡ refusal_of xs
unfolding chain or_else refusal_of
chain_first [] n = refl
chain_first (x ∷ xs) n =
    let h = not-zero x xs n in
    let found : Bool → ℕ = λ t. chain (cond t x.number 0) xs in
    by-test x.applies (λ t. ap found t ∙ chain-stays x.number xs h.0 ∙ sym (refusal-here x xs t))
    (λ t. ap found t ∙ chain_first xs h.1 ∙ sym (refusal-later x xs t))

-- the tests of one list and then those of another
pub chained : (xs ys : List Refusal) → numbered (xs ++ ys) ≡ true → chain (refusal_of xs) ys ≡ refusal_of (xs ++ ys)
unfolding refusal_of
chained [] ys n = chain_first ys n
chained (x ∷ xs) ys n =
    let h = not-zero x (xs ++ ys) n in
    by-test x.applies (λ t. ap (λ (r : ℕ). chain r ys) (refusal-here x xs t) ∙ chain-stays x.number ys h.0 ∙ sym (refusal-here x (xs ++ ys) t))
    (λ t. ap (λ (r : ℕ). chain r ys) (refusal-later x xs t) ∙ chained xs ys h.1 ∙ sym (refusal-later x (xs ++ ys) t))

-- the test that two numbers differ; the test of a limit needs no laws of its own

differs-passed : (a b : ℕ) → a ≡ b → differs a b ≡ false
differs-passed a b e = rw (eq-eqb a b e)

differs-known : (a b : ℕ) → differs a b ≡ false → a ≡ b
differs-known a b e = eqb-true a b (not-false (eqb a b) e)

-- cipher and rounds, which have two tests each

cipher-passed : (c : ℕ) → (c ≡ 64) ⊎ (c ≡ 128) → (wrong_cipher c).applies ≡ false
unfolding wrong_cipher
cipher-passed c (inl e) = rw (eq-eqb c 64 e)
cipher-passed c (inr e) = by-test (eqb c 64) (λ t. rw t) (λ t. rw (t, eq-eqb c 128 e))

either : (a b : Bool) → cond a false (not b) ≡ false → (a ≡ true) ⊎ (b ≡ true)
either true b e = inl refl
either false b e = inr (not-false b e)

cipher-known : (c : ℕ) → (wrong_cipher c).applies ≡ false → (c ≡ 64) ⊎ (c ≡ 128)
unfolding wrong_cipher
cipher-known c e = ⊎_elim (λ t. inl (eqb-true c 64 t)) (λ t. inr (eqb-true c 128 t)) (either (eqb c 64) (eqb c 128) e)

neither : (a b : Bool) → cond a true b ≡ false → (a ≡ false) × (b ≡ false)
neither true b e = (e, absurd (true≢false e))
neither false b e = (refl, e)

-- a key

keyed-passed : {c r k : ℕ} → Keyed c r k → Passed (for_key c r k)
unfolding Passed for_key wrong_rounds long_key
keyed-passed {c} {r} {k} h =
    (cipher-passed c h.cipher, (rw (le-ltb r 12 h.low, le-ltb 255 r h.high), (le-ltb 32 k h.key, tt)))

passed-keyed : (c r k : ℕ) → (wrong_cipher c).applies ≡ false → (wrong_rounds r).applies ≡ false → (long_key k).applies ≡ false → Keyed c r k
unfolding wrong_rounds long_key
passed-keyed c r k pc pr pk =
    let t = neither (ltb r 12) (ltb 255 r) pr in
    record { cipher = cipher-known c pc; low = ltb-false r 12 t.0; high = ltb-false 255 r t.1; key = ltb-false 32 k pk }

pub keyed-served : {c r k : ℕ} → Keyed c r k → refusal_of (for_key c r k) ≡ 0
keyed-served {c} {r} {k} h = passed-served (for_key c r k) (keyed-passed h)

pub keyed : (c r k : ℕ) → refusal_of (for_key c r k) ≡ 0 → Keyed c r k
unfolding Passed numbered for_key wrong_cipher wrong_rounds long_key
keyed c r k e =
    let p = served-passed (for_key c r k) refl e in
    passed-keyed c r k p.0 p.1.0 p.1.1.0

-- a key that is to seal or to open

long-passed : (sealing : Bool) (k : ℕ) → LongFor sealing k → (short_key sealing k).applies ≡ false
unfolding short_key
long-passed true k h = le-ltb k 16 (h refl)
long-passed false k h = refl

long-known : (sealing : Bool) (k : ℕ) → (short_key sealing k).applies ≡ false → LongFor sealing k
unfolding short_key
long-known true k e = λ t. ltb-false k 16 e
long-known false k e = λ t. absurd (true≢false (sym t))

-- to open with, a key may have any length
pub to-open : (k : ℕ) → LongFor false k
to-open k t = absurd (true≢false (sym t))

pub turnable-served : (sealing : Bool) {c r k : ℕ} → Keyed c r k → LongFor sealing k → refusal_of (for_turn sealing c r k) ≡ 0
unfolding Passed for_key for_turn
turnable-served sealing {c} {r} {k} h long =
    let p = keyed-passed h in
    passed-served (for_turn sealing c r k) (p.0, (p.1.0, (p.1.1.0, (long-passed sealing k long, tt))))

pub turnable : (sealing : Bool) (c r k : ℕ) → refusal_of (for_turn sealing c r k) ≡ 0 → Keyed c r k × LongFor sealing k
unfolding Passed numbered for_key for_turn wrong_cipher wrong_rounds long_key short_key
turnable sealing c r k e =
    let p = served-passed (for_turn sealing c r k) refl e in
    (passed-keyed c r k p.0 p.1.0 p.1.1.0, long-known sealing k p.1.1.1.0)

-- one block

pub blocked-served : (sealing : Bool) {c r k b o : ℕ} → Blocked sealing c r k b o → refusal_of (for_block sealing c r k b o) ≡ 0
unfolding Passed for_key for_turn for_block wrong_block_length wrong_output_length
blocked-served sealing {c} {r} {k} {b} {o} h =
    let p = keyed-passed h.keyed in
    passed-served (for_block sealing c r k b o) (
      p.0,
      (
        p.1.0,
        (p.1.1.0, (long-passed sealing k h.long, (differs-passed b (block_size c) h.block, (differs-passed o b h.output, tt)))),
      ),
    )

pub blocked : (sealing : Bool) (c r k b o : ℕ) → refusal_of (for_block sealing c r k b o) ≡ 0 → Blocked sealing c r k b o
unfolding Passed numbered for_key for_turn for_block wrong_cipher wrong_rounds long_key short_key wrong_block_length wrong_output_length
blocked sealing c r k b o e =
    let p = served-passed (for_block sealing c r k b o) refl e in
    let q = p.1.1.1 in
    record {
      keyed = passed-keyed c r k p.0 p.1.0 p.1.1.0;
      long = long-known sealing k q.0;
      block = differs-known b (block_size c) q.1.0;
      output = differs-known o b q.1.1.0;
    }

-- a stretch of a run

pub stretched-served : (sealing : Bool) {c r k b n d o : ℕ} → Stretched sealing c r k b n d o → refusal_of (for_run sealing c r k b n d o) ≡ 0
unfolding Passed for_key for_turn for_stretch for_run wrong_block_length long_data wrong_output_length past_end
stretched-served sealing {c} {r} {k} {b} {n} {d} {o} h =
    let p = keyed-passed h.keyed in
    passed-served (for_run sealing c r k b n d o) (
      p.0,
      (
        p.1.0,
        (
          p.1.1.0,
          (
            long-passed sealing k h.long,
            (
              differs-passed b (block_size c) h.counter,
              (le-ltb 65536 d h.short, (differs-passed o d h.output, (le-ltb 1073741824 (n + d) h.end, tt))),
            ),
          ),
        ),
      ),
    )

pub stretched : (sealing : Bool) (c r k b n d o : ℕ) → refusal_of (for_run sealing c r k b n d o) ≡ 0 → Stretched sealing c r k b n d o
unfolding Passed numbered for_key for_turn for_stretch for_run wrong_cipher wrong_rounds long_key short_key wrong_block_length long_data wrong_output_length past_end
stretched sealing c r k b n d o e =
    let p = served-passed (for_run sealing c r k b n d o) refl e in
    let q = p.1.1.1 in
    record {
      keyed = passed-keyed c r k p.0 p.1.0 p.1.1.0;
      long = long-known sealing k q.0;
      counter = differs-known b (block_size c) q.1.0;
      short = ltb-false 65536 d q.1.1.0;
      output = differs-known o d q.1.1.1.0;
      end = ltb-false 1073741824 (n + d) q.1.1.1.1.0;
    }

-- an output of another length than the input is refused with 6, where nothing comes before that
pub wrong-output : (sealing : Bool) {c r k b d o : ℕ} (n : ℕ) → Keyed c r k → LongFor sealing k → b ≡ block_size c → d ≤ 65536 → (o ≡ d → ⊥)
    → refusal_of (for_run sealing c r k b n d o) ≡ 6
unfolding Passed refusal_of for_key for_turn for_stretch for_run wrong_block_length long_data wrong_output_length
wrong-output sealing {c} {r} {k} {b} {d} {o} n h long block short other =
    let p = keyed-passed h in
    rw (p.0, p.1.0, p.1.1.0, long-passed sealing k long, differs-passed b (block_size c) block, le-ltb 65536 d short, ne_eqb o d other)

-- opening, and sealing with a key of 16 bytes or more, is refused as if there were no 13, whatever tests follow

pub as_before : (sealing : Bool) (c r k : ℕ) (rest : List Refusal) → LongFor sealing k → refusal_of (for_turn sealing c r k ++ rest) ≡ refusal_of (for_key c r k ++ rest)
unfolding refusal_of for_key for_turn
as_before sealing c r k rest long = rw (long-passed sealing k long)

pub block-as-before : (sealing : Bool) (c r k b o : ℕ) → LongFor sealing k
    → refusal_of (for_block sealing c r k b o) ≡ refusal_of (for_key c r k ++ (wrong_block_length c b ∷ wrong_output_length b o ∷ []))
unfolding for_block
block-as-before sealing c r k b o long = as_before sealing c r k _ long

pub run-as-before : (sealing : Bool) (c r k b n d o : ℕ) → LongFor sealing k
    → refusal_of (for_run sealing c r k b n d o) ≡ refusal_of (for_key c r k ++ for_stretch c b n d o)
unfolding for_run
run-as-before sealing c r k b n d o long = as_before sealing c r k _ long

-- a key under 16 bytes that is to seal is refused with 13, where nothing is wrong with it as a key, whatever tests follow
pub short-key : {c r k : ℕ} (rest : List Refusal) → Keyed c r k → k < 16 → refusal_of (for_turn true c r k ++ rest) ≡ 13
unfolding Passed refusal_of for_key for_turn short_key
short-key {c} {r} {k} rest h short =
    let p = keyed-passed h in
    rw (p.0, p.1.0, p.1.1.0, lt-ltb k 16 short)

-- a counter block that is made

pub counter-served : (c n : ℕ) → (c ≡ 64) ⊎ (c ≡ 128) → n ≡ block_size c → refusal_of (for_counter c n) ≡ 0
unfolding Passed for_counter wrong_block_length
counter-served c n known size = passed-served (for_counter c n) (cipher-passed c known, (differs-passed n (block_size c) size, tt))

pub counter-known : (c n : ℕ) → refusal_of (for_counter c n) ≡ 0 → ((c ≡ 64) ⊎ (c ≡ 128)) × (n ≡ block_size c)
unfolding Passed numbered for_counter wrong_cipher wrong_block_length
counter-known c n e =
    let p = served-passed (for_counter c n) refl e in
    (cipher-known c p.0, differs-known n (block_size c) p.1.0)

-- a tag

numbered-tag : (making : Bool) (c r k m t : ℕ) → numbered (for_tag making c r k m t) ≡ true
unfolding numbered for_key for_tag wrong_cipher wrong_rounds long_key long_message wrong_tag_length
numbered-tag true c r k m t = refl
numbered-tag false c r k m t = refl

tagged-passed : (making : Bool) {c r k m t : ℕ} → Tagged c r k m t → Passed (for_tag making c r k m t)
unfolding Passed for_key for_tag long_message wrong_tag_length
tagged-passed making {c} {r} {k} {m} {t} h =
    let p = keyed-passed h.keyed in
    (p.0, (p.1.0, (p.1.1.0, (le-ltb 1073741824 m h.message, (differs-passed t (block_size c) h.tag, tt)))))

pub tagged-served : (making : Bool) {c r k m t : ℕ} → Tagged c r k m t → refusal_of (for_tag making c r k m t) ≡ 0
tagged-served making {c} {r} {k} {m} {t} h = passed-served (for_tag making c r k m t) (tagged-passed making h)

pub tagged : (making : Bool) (c r k m t : ℕ) → refusal_of (for_tag making c r k m t) ≡ 0 → Tagged c r k m t
unfolding Passed for_key for_tag long_message wrong_tag_length
tagged making c r k m t e =
    let p = served-passed (for_tag making c r k m t) (numbered-tag making c r k m t) e in
    let q = p.1.1.1 in
    record {
      keyed = passed-keyed c r k p.0 p.1.0 p.1.1.0;
      message = ltb-false 1073741824 m q.0;
      tag = differs-known t (block_size c) q.1.0;
    }

-- whether the stored tag is the right one

pub same_refl : (xs : List ℕ) → same xs xs ≡ true
unfolding same
same_refl [] = refl
same_refl (x ∷ xs) = rw (eq-eqb x x refl, same_refl xs)

pub same_known : (xs ys : List ℕ) → same xs ys ≡ true → xs ≡ ys
unfolding same
same_known [] [] e = refl
same_known [] (y ∷ ys) e = absurd (true≢false (sym e))
same_known (x ∷ xs) [] e = absurd (true≢false (sym e))
same_known (x ∷ xs) (y ∷ ys) e =
    by-test (eqb x y) (λ t. ap₂ (λ (z : ℕ) (zs : List ℕ). z ∷ zs) (eqb-true x y t) (same_known xs ys (sym (ap (λ (b : Bool). cond b (same xs ys) false) t) ∙ e)))
    (λ t. absurd (true≢false (sym (sym (ap (λ (b : Bool). cond b (same xs ys) false) t) ∙ e))))

-- a test of a stored tag goes on, past the other refusals, with 10: given where the tag differs
pub tag-tested : (c r k m : ℕ) (right stored : List ℕ)
    → or_else (refusal_of (for_tag false c r k m (length stored))) (not (same right stored)) 10 ≡ refusal_of (for_tag_test c r k m right stored)
unfolding numbered chain for_key for_tag for_tag_test wrong_cipher wrong_rounds long_key long_message wrong_tag_length other_tag
tag-tested c r k m right stored = chained (for_tag false c r k m (length stored)) (other_tag right stored ∷ []) refl

-- where no other refusal applies, the stored tag decides
pub tag-verdict : {c r k m : ℕ} (right stored : List ℕ) → Tagged c r k m (length stored)
    → refusal_of (for_tag_test c r k m right stored) ≡ cond (same right stored) 0 10
unfolding or_else
tag-verdict {c} {r} {k} {m} right stored h =
    sym (tag-tested c r k m right stored)
    ∙ ap (λ (n : ℕ). cond (eqb n 0) (cond (not (same right stored)) 10 0) n) (tagged-served false h)
    ∙ turned_round (same right stored)
  where
    turned_round : (t : Bool) → ◌≡◌ {A = ℕ} (cond (not t) 10 0) (cond t 0 10)
    turned_round true = refl
    turned_round false = refl

-- a test that answers 0 found the right tag, and nothing else to refuse
pub test-passed : (c r k m : ℕ) (right stored : List ℕ) → refusal_of (for_tag_test c r k m right stored) ≡ 0 → Tagged c r k m (length stored) × (right ≡ stored)
unfolding or_else
test-passed c r k m right stored e =
    let n = refusal_of (for_tag false c r k m (length stored)) in
    let whole = tag-tested c r k m right stored ∙ e in
    by-test (eqb n 0)
    (λ t.
    let known = tagged false c r k m (length stored) (eqb-true n 0 t) in
    let verdict = sym (tag-verdict right stored known) ∙ e in
    by-test (same right stored) (λ s. (known, same_known right stored s))
    (λ s. let z : ◌≡◌ {A = ℕ} 10 0 = sym (ap (λ (b : Bool). cond b 0 10) s) ∙ verdict in absurd (omega arith)))
    (λ t. absurd (eqb-false n 0 t (sym (ap (λ (b : Bool). cond b (cond (not (same right stored)) 10 0) n) t) ∙ whole)))

-- no number of a list is above n; this is computed
unfoldable at_most : ℕ → List Refusal → Bool
at_most n [] = true
at_most n (x ∷ xs) = cond (ltb n x.number) false (at_most n xs)

at-most : (n : ℕ) (xs : List Refusal) → at_most n xs ≡ true → refusal_of xs ≤ n
unfolding at_most refusal_of
at-most n [] e = omega arith
at-most n (x ∷ xs) e =
    let h = first-numbered (ltb n x.number) (at_most n xs) e in
    by-test x.applies (λ t. rw t (ltb-false n x.number h.0)) (λ t. rw t (at-most n xs h.1))

-- a test that answers 10 found another tag, and nothing else to refuse
pub test-differs : (c r k m : ℕ) (right stored : List ℕ) → refusal_of (for_tag_test c r k m right stored) ≡ 10
    → Tagged c r k m (length stored) × (right ≡ stored → ⊥)
unfolding or_else at_most for_key for_tag wrong_cipher wrong_rounds long_key long_message wrong_tag_length
test-differs c r k m right stored e =
    let n = refusal_of (for_tag false c r k m (length stored)) in
    let few : n ≤ 9 = at-most 9 (for_tag false c r k m (length stored)) refl in
    let whole = tag-tested c r k m right stored ∙ e in
    by-test (eqb n 0)
    (λ t.
    let known = tagged false c r k m (length stored) (eqb-true n 0 t) in
    let verdict = sym (tag-verdict right stored known) ∙ e in (
      known,
      λ q.
          let z : ◌≡◌ {A = ℕ} 0 10 =
          sym (ap (λ (b : Bool). cond b 0 10) (ap (same right) (sym q) ∙ same_refl right)) ∙ verdict in
          omega arith,
    ))
    (λ t.
    let z : n ≡ 10 = sym (ap (λ (b : Bool). cond b (cond (not (same right stored)) 10 0) n) t) ∙ whole in
    absurd (omega arith))
