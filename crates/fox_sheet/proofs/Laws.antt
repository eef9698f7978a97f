-- The first malformed line of a sheet, from those of its two parts; and the answer, by whether the sheet is well-formed and the block served.
-- Assumes nothing.
use mathlib.Core.Path.{◌≡◌, refl, sym, ◌∙◌}
use mathlib.Core.List.{List, [], ◌∷◌}
use mathlib.Core.Bool.{Bool, true, false, cond}
use Prim.Native.Nat.{ℕ, ◌≤◌}
use lib.ListN.{length}
use lib.Dec.{eqb}
use borrow.Author.Tests.{ne_eqb, eqb-true, eqb-false}
use Rattle.std.specs.Prelude.{Option, Some, None, Result, Ok, Err}
use Rattle.std.specs.Option.{ok_or}
use Rattle.fox_text.proofs.Laws.Tests.{by-test}
use Rattle.fox_text.specs.Ascii.{same}
use Rattle.fox_text.specs.Lines.{line, after_line, after_lines}
use Rattle.fox_text.specs.Rules.{Test, is_line, broken_in, broken_from}
use Rattle.fox_text.specs.Put.{Put, Stored}
use Rattle.fox_text.proofs.Laws.Stores.{put-stored}
use Rattle.fox_text.specs.Fields.{decimal_line_text}
use Rattle.fox_sheet.specs.Sheet.{seal_way, setting_tests, task_tests, broken_line, Values, values_of}
use Rattle.fox_sheet.specs.Reading.{read_or, settings_of, task_of, block_of, ReadsSettings, ReadsTask}
use Rattle.fox_sheet.specs.declared.sheet.Settings.{Settings}
use Rattle.fox_sheet.specs.declared.sheet.Task.{Task}
use Rattle.fox_sheet.specs.Answer.{refusal_name, values_from, broken_text, served_text, turned, refusal, block_text, answer_of, Answers}

-- a line's value, or else the line's number

module _ {A : Type 0} where
  ok-same : {m n : A} → ◌≡◌ {A = Result A ℕ} (Ok m) (Ok n) → m ≡ n
  ok-same e = cc

  err-same : {j k : ℕ} → ◌≡◌ {A = Result A ℕ} (Err j) (Err k) → j ≡ k
  err-same e = cc

  ok-err : {n : A} {k : ℕ} → ◌≡◌ {A = Result A ℕ} (Ok n) (Err k) → ⊥
  ok-err e = cc

module _ {A : Type 0} (right : Bool) (n : A) (k : ℕ) {o : Option A} {r : Result A ℕ} (is : o ≡ cond right (Some n) None) (or : r ≡ ok_or o k) where
  pub line-wrong : {e : ℕ} → r ≡ Err e → (right ≡ false) × (e ≡ k)
  line-wrong was =
      by-test right (λ t. absurd (ok-err (sym (rw (is, t) at or) ∙ was))) (λ f. (f, err-same (sym was ∙ rw (is, f) at or)))

  pub line-right : {m : A} → r ≡ Ok m → (right ≡ true) × (m ≡ n)
  line-right was =
      by-test right (λ t. (t, ok-same (sym was ∙ rw (is, t) at or))) (λ f. absurd (ok-err (sym was ∙ rw (is, f) at or)))

-- the first malformed line of the first three, or else of the others
parts-broken : (f g h : Test) (tests : List Test) (t : List ℕ)
    → cond (eqb (broken_in 1 (f ∷ g ∷ h ∷ []) t) 0) (broken_from 4 tests (after_lines 3 t)) (broken_in 1 (f ∷ g ∷ h ∷ []) t) ≡ broken_from 1 (f ∷ g ∷ h ∷ tests) t
unfolding broken_in broken_from after_lines
parts-broken f g h tests t = joined (is_line f t) (is_line g (after_line t)) (is_line h (after_line (after_line t))) _
  where
    joined : (a b c : Bool) (n : ℕ)
        → cond (eqb (cond a (cond b (cond c 0 3) 2) 1) 0) n (cond a (cond b (cond c 0 3) 2) 1) ≡ cond a (cond b (cond c n 3) 2) 1
    joined true true true n = refl
    joined true true false n = refl
    joined true false c n = refl
    joined false b c n = refl

pub first-broken : {settings task line : ℕ} (t : List ℕ) → settings ≡ broken_in 1 setting_tests t → task ≡ broken_from 4 task_tests (after_lines 3 t)
    → line ≡ cond (eqb settings 0) task settings → line ≡ broken_line t
unfolding broken_line setting_tests
first-broken t s k l = l ∙ rw (s, k) (parts-broken _ _ _ task_tests t)

-- what a step of reading tells, by its answer

module _ {A : Type 0} (broken : ℕ) (value : A) where
  pub or-wrong : {line : ℕ} → Err line ≡ read_or broken value → (line ≡ broken) × (line ≡ 0 → ⊥)
  or-wrong {line} e =
      by-test (eqb broken 0) (λ t. absurd (ok-err {n = value} (sym (rw t at e))))
      (λ f. let same : line ≡ broken = err-same {A = A} (rw f at e) in (same, λ z. eqb-false broken 0 f (sym same ∙ z)))

  pub or-right : {x : A} → Ok x ≡ read_or broken value → (broken ≡ 0) × (x ≡ value)
  or-right e =
      by-test (eqb broken 0) (λ t. (eqb-true broken 0 t, ok-same (rw t at e))) (λ f. absurd (ok-err (rw f at e)))

pub record SettingsRead (t before after : List ℕ) (s : Settings) : Type 0 where
  pub right : broken_in 1 setting_tests t ≡ 0
  pub cipher : s.cipher ≡ (values_of t).cipher
  pub rounds : s.rounds ≡ (values_of t).rounds
  pub key : Stored 64 (values_of t).key before after s.size

pub settings-read : {t before after : List ℕ} {s : Settings} → ReadsSettings t before after (Ok s) → SettingsRead t before after s
unfolding settings_of
settings-read {t} reads =
    let (right, same) = or-right _ _ reads.answer in
    record { right = right; cipher = rw same refl; rounds = rw same refl; key = rw same reads.key }

pub settings-broken : {t before after : List ℕ} {line : ℕ} → ReadsSettings t before after (Err line) → (line ≡ broken_line t) × (line ≡ 0 → ⊥)
settings-broken {t} {line = line} reads =
    let (same, some) = or-wrong _ _ reads.answer in
    (first-broken t same refl (rw (ne_eqb line 0 some) refl), some)

pub record TaskRead (t before after : List ℕ) (s : Task) : Type 0 where
  pub right : broken_from 4 task_tests t ≡ 0
  pub sealing : s.sealing ≡ same seal_way (line t)
  pub block : Stored 32 (block_of t) before after s.size

pub task-read : {t before after : List ℕ} {s : Task} → ReadsTask t before after (Ok s) → TaskRead t before after s
unfolding task_of
task-read reads =
    let (right, same) = or-right _ _ reads.answer in
    record { right = right; sealing = rw same refl; block = rw same reads.block }

pub task-broken : (t : List ℕ) {before after : List ℕ} {line : ℕ} → broken_in 1 setting_tests t ≡ 0 → ReadsTask (after_lines 3 t) before after (Err line)
    → (line ≡ broken_line t) × (line ≡ 0 → ⊥)
task-broken t right reads =
    let (same, some) = or-wrong _ _ reads.answer in
    (first-broken t (sym right) same refl, some)

pub same-values : {v : Values} {sealing : Bool} {cipher rounds : ℕ} {key block : List ℕ} → sealing ≡ v.sealing → cipher ≡ v.cipher
    → rounds ≡ v.rounds → key ≡ v.key → block ≡ v.block → values_from sealing cipher rounds key block ≡ v
same-values o c r k b = rw (o, c, r, k, b)

-- the answer stored

pub broken-answer : {before after : List ℕ} {n l : ℕ} (t : List ℕ) → l ≡ broken_line t → (l ≡ 0 → ⊥) → Put 125 (broken_text l) before after 0 n
    → 125 ≤ length before → Answers t before after n
unfolding answer_of
broken-answer {l = l} t e z p room = rw (← e, ne_eqb l 0 z) (put-stored p room)

pub right_answer : {before after : List ℕ} {n : ℕ} {v : Values} (t : List ℕ) → broken_line t ≡ 0 → v ≡ values_of t → Put 125 (block_text v) before after 0 n
    → 125 ≤ length before → Answers t before after n
unfolding answer_of
right_answer t right e p room = rw (right, ← e) (put-stored p room)

-- the answer to a well-formed sheet

pub refused-text : (v : Values) (n : ℕ) → n ≡ refusal v → (n ≡ 0 → ⊥) → block_text v ≡ decimal_line_text refusal_name n
unfolding block_text
refused-text v n e z = rw (← e, ne_eqb n 0 z)

pub served-text : (v : Values) → refusal v ≡ 0 → block_text v ≡ served_text v.cipher v.rounds (length v.key) (turned v)
unfolding block_text
served-text v e = rw e
