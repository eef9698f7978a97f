-- A line of a name and a value that was read: the results for its parts give the result for the line.
-- Assumes nothing.
use mathlib.Core.Path.{◌≡◌, refl, sym, ◌∙◌}
use mathlib.Core.Bool.{Bool, true, false, ◌&&◌, true≢false}
use mathlib.Core.List.{List}
use Prim.Native.Nat.{ℕ, ◌/◌, ◌≤◌}
use native.Mathlib.Omega.{arith}
use lib.ListN.{length}
use lib.Seq.{sets}
use lib.Dec.{eqb}
use Rattle.std.specs.Prelude.{Option, Some, None, unwrap_or}
use Rattle.std.specs.Option.{option_eq}
use Rattle.fox_text.specs.Put.{Stored}
use Rattle.fox_text.specs.Ascii.{starts_with}
use Rattle.fox_text.specs.Lines.{has_line, line}
use Rattle.fox_text.specs.Rules.{is_line}
use Rattle.fox_text.specs.Decimal.{decimal_of, is_decimal, Found}
use Rattle.fox_text.specs.Hex.{is_pairs, pairs_of}
use Rattle.fox_text.specs.Fields.{value_text, is_decimal_line, is_pairs_line, decimal_in, pairs_in, ReadsDecimal, ReadsPairs, TakesPairs}
use Rattle.fox_text.proofs.Laws.Tests.{both, by-test}
use Rattle.fox_text.proofs.Laws.Pairs.{length_pairs, even-pairs}
use Rattle.fox_text.proofs.Laws.Stores.{stored}

some-same : {m n : ℕ} → Some m ≡ Some n → m ≡ n
some-same e = cc

some-none : {n : ℕ} → Some n ≡ None → ⊥
some-none e = cc

module _ {most : ℕ} {name t : List ℕ} where
  pub decimal-line : {r : Option ℕ} → (has_line t && starts_with name (line t)) ≡ true
      → Found (is_decimal most (value_text name (line t))) (decimal_of (value_text name (line t))) r → ReadsDecimal most name t r
  unfolding is_line is_decimal_line decimal_in
  decimal-line e found =
      let (has, starts) = both (has_line t) (starts_with name (line t)) e in
      record { number = found.number ∙ rw (has, starts) (by-test (is_decimal most (value_text name (line t))) (λ d. rw d refl) (λ d. rw d refl)) }

  pub no-decimal-line : (has_line t && starts_with name (line t)) ≡ false → ReadsDecimal most name t None
  unfolding is_line is_decimal_line
  no-decimal-line e =
      record {
        number =
            by-test (has_line t)
            (λ h. by-test (starts_with name (line t)) (λ s. absurd (true≢false (rw (h, s) at e))) (λ s. rw (h, s) refl)) (λ h. rw h refl);
      }

-- what an answer tells

pub decimal-read : {most : ℕ} {name t : List ℕ} {n : ℕ} → ReadsDecimal most name t (Some n)
    → (is_line (is_decimal_line most name) t ≡ true) × (n ≡ decimal_in most name (line t))
decimal-read {most} {name} {t} {n} r =
    by-test (is_line (is_decimal_line most name) t) (λ e. (e, some-same (rw e at r.number))) (λ e. absurd (some-none (rw e at r.number)))

pub decimal-wrong : {most : ℕ} {name t : List ℕ} → ReadsDecimal most name t None → is_line (is_decimal_line most name) t ≡ false
decimal-wrong {most} {name} {t} r = by-test (is_line (is_decimal_line most name) t) (λ e. absurd (some-none (sym (rw e at r.number)))) (λ e. e)

few-pairs : (most : ℕ) (name l : List ℕ) → is_pairs_line most name l ≡ true → length (pairs_of (value_text name l)) ≤ most
unfolding is_pairs_line
few-pairs most name l e =
    let v = value_text name l in
    let p = even-pairs most v (both (starts_with name l) (is_pairs most v) e).1 in
    omega (arith, p.few, length_pairs v)

module _ (most : ℕ) (name t before : List ℕ) {l v : List ℕ} {starts pairs : Bool} (room : most ≤ length before) (is-line : l ≡ line t)
    (is-value : v ≡ value_text name l)
    (is-start : starts ≡ starts_with name l) (is-pairs : pairs ≡ is_pairs most v) where
  tested : (starts && pairs) ≡ is_pairs_line most name (line t)
  unfolding is_pairs_line
  tested = rw (is-start, is-pairs, is-value, is-line)

  pub right-pairs : {after : List ℕ} → (starts && pairs) ≡ true → after ≡ sets before 0 (pairs_of v)
      → TakesPairs most name (line t) before after (Some (length v / 2))
  unfolding pairs_in
  right-pairs passed bytes =
      let e = sym tested ∙ passed in
      let value = rw is-line at is-value in
      record {
        number = rw (e, ← value, length_pairs v) refl;
        stored = rw (e, ← value) (stored refl (rw value (few-pairs most name (line t) e)) room bytes);
      }

  pub wrong-pairs : (starts && pairs) ≡ false → TakesPairs most name (line t) before before None
  unfolding pairs_in
  wrong-pairs failed =
      let e = sym tested ∙ failed in
      record { number = rw e refl; stored = rw e (stored refl (omega arith) room refl) }

module _ {most : ℕ} {name t before after : List ℕ} {r : Option ℕ} (takes : TakesPairs most name (line t) before after r) where
  pub pairs-ended : has_line t ≡ true → ReadsPairs most name t before after r
  unfolding is_line
  pairs-ended e = record { number = takes.number ∙ rw e refl; stored = takes.stored }

  pub pairs-open : has_line t ≡ false → ReadsPairs most name t before after None
  unfolding is_line
  pairs-open e = record { number = rw e refl; stored = takes.stored }

-- whether the count is a given one
pub pairs-counted : {most : ℕ} {name t before after : List ℕ} {r : Option ℕ} (size : ℕ) → ReadsPairs most name t before after r
    → option_eq eqb r (Some size) ≡ (is_line (is_pairs_line most name) t && eqb (length (pairs_in most name (line t))) size)
pairs-counted {most} {name} {t} size reads =
    rw reads.number (by-test (is_line (is_pairs_line most name) t) (λ e. rw e refl) (λ e. rw e refl))

-- the bytes, and how many they are
pub pairs-taken : {most : ℕ} {name l before after : List ℕ} {r : Option ℕ} → TakesPairs most name l before after r
    → Stored most (pairs_in most name l) before after (unwrap_or r 0)
unfolding pairs_in
pairs-taken {most} {name} {l} {r = r} takes =
    let count : unwrap_or r 0 ≡ length (pairs_in most name l) = rw takes.number (by-test (is_pairs_line most name l) (λ e. rw e refl) (λ e. rw e refl)) in
    rw count takes.stored
