-- Scans of a run file. A whole scan ends within its text, since its line feed is there; and what comes after some of a file's whole scans is itself whole
-- scans and what comes after the last, so that they can be passed over one by one.
-- Assumes nothing.
use mathlib.Core.Path.{◌≡◌, refl, sym, ap, ◌∙◌}
use mathlib.Core.Bool.{Bool, true, false, ◌&&◌}
use mathlib.Core.List.{List, [], ◌∷◌}
use Prim.Native.Nat.{ℕ, zero, suc, ◌+◌, ◌-◌, ◌≤◌, ◌<◌}
use native.Mathlib.Numerals.{add-one}
use native.Mathlib.Omega.{arith}
use borrow.Author.Rules.{rules}
use Rattle.std.specs.Prelude.{Some, None}
use Rattle.std.specs.Bool.{then_some}
use lib.ListN.{length, take, drop, length-drop}
use lib.Seq.{length-take-le, drop-drop}
use Rattle.fox_text.specs.Ascii.{starts_with}
use Rattle.fox_text.specs.Lines.{line, line_end}
use Rattle.fox_text.specs.Rules.{is_line}
use Rattle.fox_text.specs.Decimal.{is_decimal}
use Rattle.fox_text.specs.Fields.{value_text, is_decimal_line, decimal_in, decimal_line_text, ReadsDecimal}
use Rattle.fox_text.proofs.Laws.Tests.{both, by-test}
use Rattle.fox_text.proofs.Laws.Decimals.{decimal-digits}
use Rattle.fox_text.proofs.Laws.Fields.{decimal-read, decimal-wrong}
use Rattle.fox_run_file.specs.Format.{scan_name, bytes_name}
use Rattle.fox_run_file.specs.Says.{bytes_text, from_bytes, size_in, head_in, is_scan, bytes_in, after_scan, scans_in, after_scans}
use Rattle.fox_run_file.specs.Parts.{FindsLine, scan_in, FindsScan}
use Rattle.fox_run_file.specs.declared.scan.Scan.{Scan}
use Rattle.fox_run_file.proofs.Laws.Lines.{starts-long, line-missing, line-there}

decimal-small : (most : ℕ) (name l : List ℕ) → decimal_in most name l ≤ most
unfolding decimal_in
decimal-small most name l =
    let v = value_text name l in
    by-test (is_decimal most v) (λ e. rw e (decimal-digits most v e).small) (λ e. rw e (omega arith))

pub size_small : (number : ℕ) (t : List ℕ) → size_in number t ≤ 65536
unfolding size_in
size_small number t = decimal-small 65536 bytes_name (line (bytes_text number t))

module _ (number : ℕ) (t : List ℕ) where
  pub scan-fits : is_scan number t ≡ true → head_in number t + suc (size_in number t) ≤ length t
  unfolding is_scan
  scan-fits e =
      let from = from_bytes number t in
      let size = size_in number t in
      let lines = starts_with (decimal_line_text scan_name number) t && is_line (is_decimal_line 65536 bytes_name) (bytes_text number t) in
      let feed = starts-long (10 ∷ []) (drop size from) (both lines (starts_with (10 ∷ []) (drop size from)) e).1 in
      omega (arith, length-drop size from, length-drop (head_in number t) t)

  pub bytes-length : is_scan number t ≡ true → length (bytes_in number t) ≡ size_in number t
  unfolding bytes_in
  bytes-length e =
      let fits = scan-fits e in
      length-take-le (size_in number t) (from_bytes number t) (omega (arith, length-drop (head_in number t) t))

  -- what looking for a scan returns

  no-scan : is_scan number t ≡ false → FindsScan number t None
  no-scan e = record { is = rw e; small = search rules; ends = search rules }

  found-scan : {h s : ℕ} → is_scan number t ≡ true → h ≡ head_in number t → s ≡ size_in number t
      → FindsScan number t (Some (record { head = h; size = s }))
  found-scan e head size =
      let fits = scan-fits e in
      let small = size_small number t in
      record { is = rw (e, head, size); small = omega arith; ends = omega arith }

-- where a scan's two lines are there, its line feed settles whether it is whole
pub record Settled (number : ℕ) (t : List ℕ) (feed : Bool) (h s : ℕ) : Type 0 where
  pub is : feed ≡ is_scan number t
  pub head : h ≡ head_in number t
  pub size : s ≡ size_in number t

pub feed-told : {number : ℕ} {t : List ℕ} {feed : Bool} {h s : ℕ} → Settled number t feed h s
    → FindsScan number t (then_some feed (record { head = h; size = s }))
feed-told {number} {t} {feed} by =
    by-test feed (λ e. rw e (found-scan number t (sym by.is ∙ e) by.head by.size)) (λ e. rw e (no-scan number t (sym by.is ∙ e)))

-- a scan looked for step by step: its first line, its second line, and the line feed after its bytes

pub first-missing : (number : ℕ) (t : List ℕ) → FindsLine scan_name number t None → FindsScan number t None
unfolding is_scan
first-missing number t first = no-scan number t (rw (line-missing scan_name number t first))

module _ (number : ℕ) (t : List ℕ) {n : ℕ} {second : List ℕ} (first : FindsLine scan_name number t (Some n))
    (is-second : second ≡ drop n t) where
  second-text : second ≡ bytes_text number t
  second-text = is-second ∙ rw (line-there scan_name number t first).1

  pub second-missing : ReadsDecimal 65536 bytes_name second None → FindsScan number t None
  unfolding is_scan
  second-missing read = no-scan number t (rw ((line-there scan_name number t first).0, ← second-text, decimal-wrong read))

  pub second-read : {e s : ℕ} {bytes after : List ℕ} {feed : Bool} → ReadsDecimal 65536 bytes_name second (Some s) → e ≡ line_end second
      → bytes ≡ drop (n + e + 1) t → after ≡ drop s bytes → feed ≡ starts_with (10 ∷ []) after → Settled number t feed (n + e + 1) s
  unfolding head_in size_in is_scan
  second-read {e} {s} read ends is-bytes is-after is-feed =
      let (right, value) = decimal-read read in
      let (starts, long) = line-there scan_name number t first in
      let head : n + e + 1 ≡ head_in number t = omega (arith, ends ∙ ap line_end second-text) in
      let size : s ≡ size_in number t = rw second-text at value in
      record { is = is-feed ∙ rw (is-after, is-bytes, head, size, starts, ← second-text, right); head = head; size = size }

pub none-found : (number : ℕ) (t : List ℕ) → FindsScan number t None → is_scan number t ≡ false
none-found number t found = by-test (is_scan number t) (λ e. let is = rw e at found.is in cc) (λ e. e)

-- a whole scan that was found in a file at a place: its head and its size, its bytes, and what comes after it
module _ (file : List ℕ) (at : ℕ) {number : ℕ} {r : Scan} (found : FindsScan number (drop at file) (Some r)) where
  pub found-is : is_scan number (drop at file) ≡ true
  found-is = by-test (is_scan number (drop at file)) (λ e. e) (λ e. let is = rw e at found.is in cc)

  is-it : r ≡ scan_in number (drop at file)
  is-it = let is = rw found-is at found.is in cc

  pub found-head : r.head ≡ head_in number (drop at file)
  found-head = ap (λ (s : Scan). s.head) is-it

  pub found-size : r.size ≡ size_in number (drop at file)
  found-size = ap (λ (s : Scan). s.size) is-it

  pub bytes-found : bytes_in number (drop at file) ≡ take r.size (drop (at + r.head) file)
  unfolding bytes_in
  bytes-found = rw (← found-head, ← found-size, drop-drop r.head at file)

  pub after-found : after_scan number (drop at file) ≡ drop (at + r.head + r.size + 1) file
  unfolding after_scan
  after-found =
      let next : at + r.head + suc r.size ≡ at + r.head + r.size + 1 = omega arith in
      rw (← found-head, ← found-size, drop-drop r.head at file, drop-drop (suc r.size) (at + r.head) file, next)

-- n whole scans, of at most so many at the start of a text, were passed over, and this is left
pub record Passed (most : ℕ) (t : List ℕ) (n : ℕ) (left : List ℕ) : Type 0 where
  pub few : n ≤ most
  pub number : length (scans_in most 0 t) ≡ n + length (scans_in (most - n) n left)
  pub rest : after_scans most 0 t ≡ after_scans (most - n) n left

pub passed_none : (most : ℕ) (t : List ℕ) → Passed most t 0 t
passed_none most t =
    let e : most - 0 ≡ most = omega arith in
    record { few = omega arith; number = rw e (omega arith); rest = rw e }

next-scan : (most n : ℕ) (t : List ℕ) → is_scan (suc n) t ≡ true
    → (length (scans_in (suc most) n t) ≡ suc (length (scans_in most (suc n) (after_scan (suc n) t))))
    × (after_scans (suc most) n t ≡ after_scans most (suc n) (after_scan (suc n) t))
unfolding scans_in after_scans
next-scan most n t e = (rw e, rw e)

no_more : (most n : ℕ) (t : List ℕ) → is_scan (suc n) t ≡ false → (length (scans_in most n t) ≡ 0) × (after_scans most n t ≡ t)
unfolding scans_in after_scans
no_more zero n t e = (refl, refl)
no_more (suc most) n t e = (rw e, rw e)

most-passed : (n : ℕ) (t : List ℕ) → (length (scans_in 0 n t) ≡ 0) × (after_scans 0 n t ≡ t)
unfolding scans_in after_scans
most-passed n t = (refl, refl)

module _ {most n : ℕ} {t left : List ℕ} (p : Passed most t n left) where
  pub passed-one : n < most → is_scan (n + 1) left ≡ true → Passed most t (n + 1) (after_scan (n + 1) left)
  passed-one h whole =
      let e : most - n ≡ suc (most - suc n) = omega arith in
      let next = next-scan (most - suc n) n left (rw add-one at whole) in
      let number = rw e at p.number in
      let rest = rw e at p.rest in
      rw add-one (record { few = h; number = omega (arith, next.0); rest = rest ∙ next.1 })

  pub passed-last : is_scan (n + 1) left ≡ false → (n ≡ length (scans_in most 0 t)) × (left ≡ after_scans most 0 t)
  passed-last none =
      let end = no_more (most - n) n left (rw add-one at none) in
      (omega (arith, p.number, end.0), sym (p.rest ∙ end.1))

  pub passed-all : most ≤ n → (n ≡ length (scans_in most 0 t)) × (left ≡ after_scans most 0 t)
  passed-all h =
      let e : most - n ≡ 0 = omega arith in
      let number = rw e at p.number in
      let rest = rw e at p.rest in
      (omega (arith, (most-passed n left).0), sym (rest ∙ (most-passed n left).1))
