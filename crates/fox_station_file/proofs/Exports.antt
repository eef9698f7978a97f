-- The theorems on run files for the calls that C programs make: what an export hands back is what the call behind it answers, so the theorems on calls hold
-- of exports. `stand k` is the place after k scans were read or skipped.
-- Assumes nothing.
use mathlib.Core.Path.{◌≡◌, refl, sym, ap, ◌∙◌}
use mathlib.Core.List.{List, [], ◌∷◌, flatten}
use Prim.Native.Nat.{ℕ, suc, ◌+◌, ◌-◌, ◌^◌, ◌<◌}
use lib.ListN.{length, take, drop, get_or}
use Rattle.fox_layers.specs.Words.{Bytes}
use Rattle.fox_key_schedule.specs.Schedule.{round_keys}
use Rattle.fox_run_file.specs.declared.place.Place.{Place}
use Rattle.fox_run_file.specs.Outcomes.{Read}
use Rattle.fox_run_file.specs.Outcomes.{Opened, Refused, End}
use Rattle.fox_run_file.specs.Format.{turned_scans, cut_by}
use Rattle.fox_run_file.specs.Says.{counter_in, scans_of}
use Rattle.fox_run.specs.Run.{run_with}
use Rattle.fox_run_file.specs.Values.{offset_of}
use Rattle.fox_run_file.specs.Places.{passed_over, after_steps}
use Rattle.fox_run_file.specs.Promise.{ReadsWith, next_at, read_at, number_of, count_of, place_of}
use Rattle.fox_run_file.proofs.Calls.{opened-size, length-told, passed, opened, opened-stretch, other_length, ended, ended-again, read-at-end, refused-ended, refused-stays, refused-reads}
use Rattle.fox_run_file.proofs.GivenBack.{plain_size, taken-up, told_back, given_back, end_back}
use Rattle.fox_station_file.specs.Files.{place_in, length_of, WriteHanded, TakeUpHanded, NextHanded, ReadHanded, SkipHanded, Gave, Kept}

-- the order of the three words
pub words-order : place_in (7 ∷ 8 ∷ 9 ∷ []) ≡ record { at = 7; scans = 8; offset = 9 }
unfolding place_in
words-order = refl

module _ (c r : ℕ) (key file : List ℕ) {words words-after before after : List ℕ} {n m : ℕ}
    (call : ReadHanded c r key file words words-after before after n m) where
  abbrev answer : Read
  answer = read_at c r (length key) file (place_in words) (length before)

  -- an export that reads, as a call with an answer
  pub read-handed : ReadsWith c r (length key) (round_keys c r key) file (place_in words) before after answer
  read-handed = record { answer = refl; output = call.output }

  handed-by : (x : Read) → answer ≡ x → (m ≡ number_of x) × (n ≡ count_of x) × (place_in words-after ≡ place_of (place_in words) x)
  handed-by x e = (call.refusal ∙ ap number_of e, call.count ∙ ap count_of e, call.place ∙ ap (place_of (place_in words)) e)

  gave : {value : List ℕ} (next : Place) → (answer ≡ Opened (length value) next) × (after ≡ value) → Gave value next words-after after n m
  gave {value} next (e, output) =
      let (number, count, place) = handed-by (Opened (length value) next) e in
      record { refusal = number; count = count; place = place; output = output }

  kept-refused : (number : ℕ) → (answer ≡ Refused number) × (after ≡ before) → Kept number words words-after before after n m
  kept-refused k (e, output) =
      let (number, count, place) = handed-by (Refused k) e in
      record { refusal = number; count = count; place = place; output = output }

  kept-end : (answer ≡ End) × (after ≡ before) → Kept 0 words words-after before after n m
  kept-end (e, output) =
      let (number, count, place) = handed-by End e in
      record { refusal = number; count = count; place = place; output = output }

-- a file that was taken up

module _ (c r : ℕ) (key file start : List ℕ) {m : ℕ} (taken : TakeUpHanded c r key file start m) (served : m ≡ 0) where
  abbrev keys : List ℕ
  keys = round_keys c r key

  abbrev scans : List (List ℕ)
  scans = scans_of c r file

  abbrev pub stand : ℕ → Place
  stand k = after_steps file k (place_in start)

  module _ (k : ℕ) (words : List ℕ) (there : place_in words ≡ stand k) where
    pub skipped : (words-after : List ℕ) → SkipHanded file words words-after → place_in words-after ≡ stand (suc k)
    skipped words-after call = call ∙ ap (passed_over file) there ∙ passed c r (length key) keys file taken served k

    pub next-told : {n : ℕ} → k < length scans → NextHanded file words n → n ≡ length (get_or scans k [])
    next-told h call = call ∙ ap length_of (ap (next_at file) there ∙ length-told c r (length key) keys file taken served k h)

    module _ {words-after before after : List ℕ} {n q : ℕ} (h : k < length scans) (call : ReadHanded c r key file words words-after before after n q) where
      here : ReadsWith c r (length key) keys file (stand k) before after (answer c r key file call)
      here = rw (← there) (read-handed c r key file call)

      pub scan-read : length before ≡ length (get_or scans k [])
          → Gave (get_or (turned_scans c keys (counter_in c r file) scans) k []) (stand (suc k)) words-after after n q
      scan-read room =
          let (e, output) = opened c r (length key) keys file taken served k h here room in
          gave c r key file call (stand (suc k))
          (e ∙ ap (λ (l : ℕ). Opened l (stand (suc k))) (sym (opened-size c keys (counter_in c r file) k scans)), output)

      -- which is its stretch of the whole run opened
      pub stretch-read : length before ≡ length (get_or scans k [])
          → after ≡ take (length (get_or scans k [])) (drop (offset_of k scans) (run_with c keys (counter_in c r file) 0 (flatten scans)))
      stretch-read room = opened-stretch c r (length key) keys file taken served k h here room

      pub buffer-refused : (length before ≡ length (get_or scans k []) → ⊥) → Kept 6 words words-after before after n q
      buffer-refused other = kept-refused c r key file call 6 (other_length c r (length key) keys file taken served k h here other)

  -- after the last scan: the end, again and again
  module _ (words : List ℕ) (j : ℕ) (there : place_in words ≡ stand (length scans + j)) where
    at-end : place_in words ≡ stand (length scans)
    at-end = there ∙ ended-again c r (length key) keys file taken served j

    pub end-told : {n : ℕ} → NextHanded file words n → n ≡ 2 ^ 64 - 1
    end-told call = call ∙ ap length_of (ap (next_at file) at-end ∙ ended c r (length key) keys file taken served)

    pub nothing_read : {words-after before after : List ℕ} {n q : ℕ} → ReadHanded c r key file words words-after before after n q
        → Kept 0 words words-after before after n q
    nothing_read call =
        kept-end c r key file call (read-at-end c r (length key) keys file taken served (rw (← at-end) (read-handed c r key file call)))

-- a file that was refused has the end alone

module _ (c r : ℕ) (key file start : List ℕ) {m : ℕ} (taken : TakeUpHanded c r key file start m) (refused : m ≡ 0 → ⊥) (long : length file < 2 ^ 64) where
  pub refused-told : {n : ℕ} → NextHanded file start n → n ≡ 2 ^ 64 - 1
  refused-told call = call ∙ ap length_of (refused-ended c r (length key) (round_keys c r key) file taken refused long)

  pub refused-skipped : (words-after : List ℕ) → SkipHanded file start words-after → place_in words-after ≡ place_in start
  refused-skipped words-after call = call ∙ refused-stays c r (length key) (round_keys c r key) file taken refused long

  pub refused-read : {words-after before after : List ℕ} {n q : ℕ} → ReadHanded c r key file start words-after before after n q
      → Kept 0 start words-after before after n q
  refused-read call =
      kept-end c r key file call (refused-reads c r (length key) (round_keys c r key) file taken refused long (read-handed c r key file call))

-- what was written is taken up and given back

module _ (c r : ℕ) (key counter input sizes : List ℕ) {before after : List ℕ} {count w : ℕ} (bytes : Bytes counter)
    (write : WriteHanded c r key counter input sizes before after count w) (served : w ≡ 0) where
  abbrev F : List ℕ
  F = take count after

  module _ (start : List ℕ) {m : ℕ} (take-up : TakeUpHanded c r key F start m) where
    pub written-taken-up : m ≡ 0
    written-taken-up = taken-up c r (length key) (round_keys c r key) counter input sizes bytes write served take-up

    module _ (i : ℕ) (words : List ℕ) (there : place_in words ≡ after_steps F i (place_in start)) where
      pub written-told : {n : ℕ} → i < length sizes → NextHanded F words n → n ≡ get_or sizes i 0
      written-told h call =
          call
          ∙ ap length_of (ap (next_at F) there ∙ told_back c r (length key) (round_keys c r key) counter input sizes bytes write served take-up i h)

      pub written_read : {words-after room out : List ℕ} {n q : ℕ} → i < length sizes → length room ≡ get_or sizes i 0
          → ReadHanded c r key F words words-after room out n q
          → Gave (get_or (cut_by sizes input) i []) (after_steps F (suc i) (place_in start)) words-after out n q
      written_read {room = room} {out = out} h size call =
          let keys = round_keys c r key in
          let here : ReadsWith c r (length key) keys F (after_steps F i (place_in start)) room out (answer c r key F call) =
          rw (← there) (read-handed c r key F call) in
          let e = plain_size c r (length key) keys counter input sizes bytes write served i in
          let (opens, output) =
          given_back c r (length key) keys counter input sizes bytes write served take-up i h size here in
          gave c r key F call (after_steps F (suc i) (place_in start)) (opens ∙ ap (λ (l : ℕ). Opened l (after_steps F (suc i) (place_in start))) (sym e), output)

    pub written-ended : {n : ℕ} (words : List ℕ) → place_in words ≡ after_steps F (length sizes) (place_in start) → NextHanded F words n → n ≡ 2 ^ 64 - 1
    written-ended words there call =
        call ∙ ap length_of (ap (next_at F) there ∙ end_back c r (length key) (round_keys c r key) counter input sizes bytes write served take-up)
