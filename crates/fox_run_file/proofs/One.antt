-- No two sets of values give one file: what a right file says is one thing, since its first lines, read one after the other, tell cipher and rounds, and these
-- tell where the rest is read. A file that is written from values in range says them, so two such files are equal only where the values are.
-- Assumes nothing.
use mathlib.Core.Path.{◌≡◌, sym, ap, ◌∙◌}
use mathlib.Core.Logic.{◌⊎◌, ⊎_elim}
use mathlib.Core.Bool.{true, false}
use mathlib.Core.List.{List, ◌++◌, append_assoc}
use Prim.Native.Nat.{ℕ, ◌≤◌, ◌<◌}
use native.Mathlib.Omega.{arith}
use lib.ListN.{length, drop}
use lib.Seq.{drop-append_seam}
use Rattle.fox_refusals.specs.Refusals.{refusal_of, Keyed}
use Rattle.fox_text.specs.Ascii.{starts_with}
use Rattle.fox_text.specs.Names.{cipher_name, rounds_name}
use Rattle.fox_text.specs.Fields.{decimal_line_text}
use Rattle.fox_text.proofs.Laws.Tests.{both, by-test}
use Rattle.fox_text.proofs.Laws.Written.{cipher-plain, rounds-plain}
use Rattle.fox_text.proofs.Laws.Values.{starts-split}
use Rattle.fox_text.proofs.Laws.TextsAgain.{decimal-first-one}
use Rattle.fox_run_file.specs.Format.{format_text, counter_name, key_lines, file_of, run_file}
use Rattle.fox_run_file.specs.Says.{is_block_line, counter_text, is_header}
use Rattle.fox_run_file.specs.Refusals.{for_take_up}
use Rattle.fox_run_file.specs.Values.{Settings, InRange, Says, SameValues}
use Rattle.fox_run_file.proofs.Laws.TakeUp.{take-up-verdict, passes}
use Rattle.fox_run_file.proofs.Laws.Turned.{turned-twice}
use Rattle.fox_run_file.proofs.Written.{turned-range, file-says}

-- a cipher and rounds that no call refuses
pub settings : (c r : ℕ) → (c ≡ 64) ⊎ (c ≡ 128) → r ≤ 255 → Settings c r
settings c r known high =
    let small : c < 100000 = ⊎_elim (λ (e : c ≡ 64). omega arith) (λ (e : c ≡ 128). omega arith) known in
    record { cipher = small; rounds = omega arith }

-- a file's first three lines, and what comes after them
key-first : (cipher rounds : ℕ) (file : List ℕ) → is_header cipher rounds file ≡ true
    → drop (length format_text) file
    ≡ decimal_line_text cipher_name cipher ++ (decimal_line_text rounds_name rounds ++ drop (length (key_lines cipher rounds)) file)
unfolding is_header key_lines
key-first cipher rounds file e =
    let (key, block) = both (starts_with (key_lines cipher rounds) file) (is_block_line counter_name cipher (counter_text cipher rounds file)) e in
    ap (λ (t : List ℕ). drop (length format_text) t) (starts-split (key_lines cipher rounds) file key ∙ simp append_assoc)
    ∙ drop-append_seam format_text _

-- a file has the header of one cipher and one number of rounds
pub one-header : {c₁ c₂ r₁ r₂ : ℕ} (file : List ℕ) → Settings c₁ r₁ → Settings c₂ r₂ → is_header c₁ r₁ file ≡ true → is_header c₂ r₂ file ≡ true
    → (c₁ ≡ c₂) × (r₁ ≡ r₂)
one-header {c₁} {c₂} {r₁} {r₂} file s₁ s₂ e₁ e₂ =
    let (ciphers, later) =
    decimal-first-one cipher_name cipher-plain s₁.cipher s₂.cipher (sym (key-first c₁ r₁ file e₁) ∙ key-first c₂ r₂ file e₂) in
    (ciphers, (decimal-first-one rounds_name rounds-plain s₁.rounds s₂.rounds later).0)

-- files that say values
pub one-file-said : {c₁ c₂ r₁ r₂ : ℕ} {file₁ file₂ counter₁ counter₂ text₁ text₂ tag₁ tag₂ : List ℕ} {sealed₁ sealed₂ : List (List ℕ)}
    → Settings c₁ r₁ → Settings c₂ r₂ → file₁ ≡ file₂ → Says c₁ r₁ file₁ counter₁ sealed₁ text₁ tag₁ → Says c₂ r₂ file₂ counter₂ sealed₂ text₂ tag₂
    → SameValues c₁ c₂ r₁ r₂ counter₁ counter₂ sealed₁ sealed₂
one-file-said {file₂ = file₂} s₁ s₂ equal a b =
    let (ciphers, rounds) = one-header file₂ s₁ s₂ (rw equal at a.header) b.header in
    record { cipher = ciphers; rounds = rounds; counter = cc (a.block, b.block); scans = cc (a.scans, b.scans) }

-- files of sealed scans, whatever their round keys
pub one-file : {c₁ c₂ r₁ r₂ : ℕ} {counter₁ counter₂ : List ℕ} {sealed₁ sealed₂ : List (List ℕ)} → Settings c₁ r₁ → Settings c₂ r₂
    → InRange c₁ r₁ counter₁ sealed₁ → InRange c₂ r₂ counter₂ sealed₂ → (rks₁ rks₂ : List ℕ)
    → file_of c₁ r₁ rks₁ counter₁ sealed₁ ≡ file_of c₂ r₂ rks₂ counter₂ sealed₂ → SameValues c₁ c₂ r₁ r₂ counter₁ counter₂ sealed₁ sealed₂
one-file s₁ s₂ range₁ range₂ rks₁ rks₂ e = one-file-said s₁ s₂ e (file-says _ _ rks₁ _ _ range₁) (file-says _ _ rks₂ _ _ range₂)

-- files of plain scans, with the round keys of one key for each cipher and number of rounds
pub one-plain-file : {c₁ c₂ r₁ r₂ : ℕ} {counter₁ counter₂ : List ℕ} {scans₁ scans₂ : List (List ℕ)} → Settings c₁ r₁ → Settings c₂ r₂
    → InRange c₁ r₁ counter₁ scans₁ → InRange c₂ r₂ counter₂ scans₂ → (keys : ℕ → ℕ → List ℕ)
    → run_file c₁ r₁ (keys c₁ r₁) counter₁ scans₁ ≡ run_file c₂ r₂ (keys c₂ r₂) counter₂ scans₂ → SameValues c₁ c₂ r₁ r₂ counter₁ counter₂ scans₁ scans₂
unfolding run_file
one-plain-file {c₁} {c₂} {r₁} {r₂} {counter₁} {counter₂} {scans₁} {scans₂} s₁ s₂ range₁ range₂ keys e =
    let rks₁ = keys c₁ r₁ in
    let rks₂ = keys c₂ r₂ in
    let same = one-file s₁ s₂ (turned-range c₁ r₁ rks₁ counter₁ scans₁ range₁) (turned-range c₂ r₂ rks₂ counter₂ scans₂ range₂) rks₁ rks₂ e in
    record {
      cipher = same.cipher;
      rounds = same.rounds;
      counter = same.counter;
      scans = cc (turned-twice c₁ rks₁ counter₁ scans₁, turned-twice c₂ rks₂ counter₂ scans₂);
    }

-- so a file that is taken up by one cipher and number of rounds is refused with 11 by any other
pub other-settings : {c₁ c₂ r₁ r₂ k : ℕ} (rks₁ rks₂ file : List ℕ) → Keyed c₂ r₂ k → (c₁ ≡ c₂ → r₁ ≡ r₂ → ⊥)
    → refusal_of (for_take_up c₁ r₁ k rks₁ file) ≡ 0 → refusal_of (for_take_up c₂ r₂ k rks₂ file) ≡ 11
other-settings {c₁} {c₂} {r₁} {r₂} {k} rks₁ rks₂ file key other served =
    let p = passes c₁ r₁ k rks₁ file served in
    let none : is_header c₂ r₂ file ≡ false =
    by-test (is_header c₂ r₂ file)
    (λ e.
    let (same-cipher, same-rounds) =
    one-header file (settings c₁ r₁ p.keyed.cipher p.keyed.high) (settings c₂ r₂ key.cipher key.high) p.header e in
    absurd (other same-cipher same-rounds))
    (λ e. e) in
    take-up-verdict key rks₂ file ∙ rw none
