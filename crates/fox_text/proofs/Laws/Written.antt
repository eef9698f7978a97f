-- Texts of lines, as they are written and as they are read. A written line ends at the first line feed if it has none itself, so lines that pass their tests
-- give a text that breaks no rule, with these lines; and a text that breaks no rule is its lines, one after the other.
-- Assumes nothing.
use mathlib.Core.Path.{◌≡◌, refl, ap, ap₂, ◌∙◌}
use mathlib.Core.Bool.{true, false}
use mathlib.Core.List.{List, [], ◌∷◌, ◌++◌}
use Prim.Native.Nat.{ℕ, suc, ◌<◌}
use native.Mathlib.Omega.{arith}
use lib.ListN.{length, drop, length-append}
use lib.Seq.{take_at}
use lib.Dec.{eqb}
use borrow.Author.Tests.{ltb-true, eqb-true, lt-ltb}
use Rattle.fox_text.specs.Ascii.{codes, ascii, empty}
use Rattle.fox_text.specs.Names.{cipher_name, rounds_name}
use Rattle.fox_text.specs.Lines.{line_end, has_line, line, after_line, lines, text_of}
use Rattle.fox_text.specs.Rules.{Test, is_line, broken_from}
use Rattle.fox_text.proofs.Laws.Tests.{both, by-test}

-- a text without a line feed
unfoldable pub Plain : List ℕ → Type 0
Plain [] = Unit {0}
Plain (x ∷ xs) = (eqb x 10 ≡ false) × Plain xs

pub plain-append : (a b : List ℕ) → Plain a → Plain b → Plain (a ++ b)
unfolding Plain
plain-append [] b p q = q
plain-append (x ∷ xs) b p q = (p.0, plain-append xs b p.1 q)

pub cipher-plain : Plain cipher_name
unfolding cipher_name codes ascii Plain
cipher-plain = (refl, (refl, (refl, (refl, (refl, (refl, (refl, tt)))))))

pub rounds-plain : Plain rounds_name
unfolding rounds_name codes ascii Plain
rounds-plain = (refl, (refl, (refl, (refl, (refl, (refl, (refl, tt)))))))

-- lines that pass tests, one after the other; lines without a line feed
unfoldable pub Passing : List Test → List (List ℕ) → Type 0
Passing [] [] = Unit {0}
Passing [] (l ∷ ls) = ⊥
Passing (test ∷ tests) [] = ⊥
Passing (test ∷ tests) (l ∷ ls) = (test l ≡ true) × Passing tests ls

unfoldable pub Plains : List (List ℕ) → Type 0
Plains [] = Unit {0}
Plains (l ∷ ls) = Plain l × Plains ls

-- as they are written

pub line_end-written : (l r : List ℕ) → Plain l → line_end (l ++ 10 ∷ r) ≡ length l
unfolding line_end Plain
line_end-written [] r p = refl
line_end-written (x ∷ xs) r p = rw p.0 (ap suc (line_end-written xs r p.1))

pub drop-written : (l : List ℕ) (x : ℕ) (r : List ℕ) → drop (suc (length l)) (l ++ x ∷ r) ≡ r
drop-written [] x r = refl
drop-written (y ∷ ys) x r = drop-written ys x r

module _ (l r : List ℕ) (plain : Plain l) where
  pub is_line-written : (test : Test) → test l ≡ true → is_line test (l ++ 10 ∷ r) ≡ true
  unfolding is_line
  is_line-written test e =
      let ended : length l < length (l ++ 10 ∷ r) = omega (arith, length-append l (10 ∷ r)) in
      rw (line_end-written l r plain, lt-ltb (length l) (length (l ++ 10 ∷ r)) ended, take_at l (10 ∷ r) (length l) refl) e

  pub line-written : line (l ++ 10 ∷ r) ≡ l
  line-written = rw (line_end-written l r plain) (take_at l (10 ∷ r) (length l) refl)

  pub after_line-written : after_line (l ++ 10 ∷ r) ≡ r
  unfolding after_line
  after_line-written = rw (line_end-written l r plain) (drop-written l 10 r)

pub written-right : (n : ℕ) (tests : List Test) (ls : List (List ℕ)) → Passing tests ls → Plains ls → broken_from n tests (text_of ls) ≡ 0
unfolding Passing Plains broken_from text_of
written-right n [] [] k p = refl
written-right n [] (l ∷ ls) k p = absurd k
written-right n (test ∷ tests) [] k p = absurd k
written-right n (test ∷ tests) (l ∷ ls) k p =
    rw (is_line-written l (text_of ls) p.0 test k.0, after_line-written l (text_of ls) p.0) (written-right (suc n) tests ls k.1 p.1)

pub written-lines : (ls : List (List ℕ)) → Plains ls → lines (length ls) (text_of ls) ≡ ls
unfolding Plains lines text_of
written-lines [] p = refl
written-lines (l ∷ ls) p =
    ap₂ (λ (x : List ℕ) (xs : List (List ℕ)). x ∷ xs) (line-written l (text_of ls) p.0)
    (rw (after_line-written l (text_of ls) p.0) (written-lines ls p.1))

-- as they are read

pub split-line : (t : List ℕ) → line_end t < length t → t ≡ line t ++ 10 ∷ after_line t
unfolding line_end after_line
split-line [] h = absurd (omega arith)
split-line (x ∷ xs) h =
    by-test (eqb x 10) (λ e. rw e (ap (λ (y : ℕ). y ∷ xs) (eqb-true x 10 e)))
    (λ e.
    let held : suc (line_end xs) < suc (length xs) = rw e at h in
    rw e (ap (λ (ys : List ℕ). x ∷ ys) (split-line xs (omega arith))))

pub nothing : (t : List ℕ) → length t ≡ 0 → t ≡ []
nothing [] e = refl
nothing (x ∷ xs) e = absurd (omega arith)

-- a text that breaks no rule: its lines pass, and it consists of them
pub record Right (tests : List Test) (t : List ℕ) : Type 0 where
  pub passing : Passing tests (lines (length tests) t)
  pub text : t ≡ text_of (lines (length tests) t)

pub right-lines : (n : ℕ) (tests : List Test) (t : List ℕ) → broken_from (suc n) tests t ≡ 0 → Right tests t
unfolding Passing broken_from lines text_of is_line
right-lines n [] t right =
    by-test (empty t) (λ e. record { passing = tt; text = nothing t (eqb-true (length t) 0 e) })
    (λ e. let z : suc n ≡ 0 = rw e at right in absurd (omega arith))
right-lines n (test ∷ tests) t right =
    by-test (is_line test t)
    (λ e.
    let (ended, passed) = both (has_line t) (test (line t)) e in
    let later = right-lines (suc n) tests (after_line t) (rw e at right) in
    record {
      passing = (passed, later.passing);
      text = split-line t (ltb-true (line_end t) (length t) ended) ∙ ap (λ (r : List ℕ). line t ++ 10 ∷ r) later.text;
    })
    (λ e. let z : suc n ≡ 0 = rw e at right in absurd (omega arith))
