-- A scan laid from its parts, and scans laid one after the other. The lines of a scan end before its bytes begin, since the whole scan ends no later than they
-- do; and so for all scans that are still to be laid, since each takes more room than its bytes.
-- Assumes nothing.
use mathlib.Core.Path.{◌≡◌, refl, sym, ap, ◌∙◌}
use mathlib.Core.Bool.{false}
use mathlib.Core.List.{List, [], ◌∷◌, ◌++◌, append_assoc, append-nil}
use Prim.Native.Nat.{ℕ, ◌+◌, ◌≤◌, ◌<◌}
use native.Mathlib.Numerals.{add-one}
use native.Mathlib.Omega.{arith}
use lib.ListN.{length, take, drop, get_or, length-append, length-drop, drop_of_length-le}
use lib.Seq.{length-take-le, drop-drop}
use Rattle.fox_text.specs.Put.{Put}
use Rattle.fox_text.specs.Fields.{PutsDecimal}
use Rattle.fox_text.proofs.Laws.Stores.{then}
use Rattle.fox_text.proofs.Laws.Lines.{from-here}
use Rattle.fox_run_file.specs.Format.{scan_name, bytes_name, scan_head, scan_text, scans_text, cut_by}
use Rattle.fox_run_file.specs.Sizes.{scan_size, scans_size, total, any_above}
use Rattle.fox_run_file.proofs.Laws.Lengths.{length-scan, first_small, total-scans}
use Rattle.fox_run_file.proofs.Laws.Sizes.{total_here, scans-here, scans-done}
use Rattle.fox_run_file_lay.specs.Laid.{Laid, ScanRoom, Room}
use Rattle.fox_run_file_lay.proofs.Laws.Laid.{drop-later, put-laid, laid_then}

module _ {at src number size : ℕ} {out : List ℕ} (room : ScanRoom at src number size out) where
  pub head-end : {a b : ℕ} {l l' : List ℕ} → PutsDecimal scan_name number out l at a → PutsDecimal bytes_name size l l' a b → b < src
  unfolding scan_size scan_head
  head-end p q = omega (arith, room.gap, p.place, q.place, simp length-append at room.gap)

  pub scan-laid : {m a b r : ℕ} {l l' l'' l''' : List ℕ} → PutsDecimal scan_name number out l at a → PutsDecimal bytes_name size l l' a b
      → Laid b (src + size) (take size (drop src l')) l' l'' (b + size) → Put m (10 ∷ []) l'' l''' (b + size) r → length l'' ≡ length out
      → Laid at (src + size) (scan_text number (take size (drop src out))) out l''' r
  unfolding scan_head scan_text
  scan-laid p q moved feed same =
      let end = head-end p q in
      let head = put-laid src (then p q) (omega arith) (omega (arith, room.fits)) in
      let long : length (take size (drop src out)) ≡ size = length-take-le size (drop src out) (rw (length-drop src out) (omega (arith, room.fits))) in
      let last = put-laid (src + size) feed (omega (arith, feed.place)) (omega (arith, room.fits)) in
      rw (long, ← head.back) (laid_then (laid_then head moved (omega arith)) last (omega arith))

scans-next : (sizes : List ℕ) (i : ℕ) (ds : List ℕ) → i < length sizes → let size = get_or sizes i 0 in
    scans_text i (cut_by (drop i sizes) ds) ≡ scan_text (i + 1) (take size ds) ++ scans_text (i + 1) (cut_by (drop (i + 1) sizes) (drop size ds))
unfolding cut_by scans_text
scans-next sizes i ds here = rw (from-here sizes i here, add-one i)

-- scans laid up to number i, as a loop goes over them: the text so far is at the front, and the bytes that are left, from `from` on, give the rest of it
pub record Onward (at src : ℕ) (sizes before : List ℕ) (to from i : ℕ) (out : List ℕ) : Type 0 where
  pub text : take to out ++ scans_text i (cut_by (drop i sizes) (drop from out)) ≡ take at before ++ scans_text 0 (cut_by sizes (drop src before))
  pub small : any_above 65536 (drop i sizes) ≡ false
  pub end : to + scans_size i (drop i sizes) ≡ at + scans_size 0 sizes
  pub source : from + total (drop i sizes) ≡ src + total sizes
  pub rest : drop (src + total sizes) out ≡ drop (src + total sizes) before

module _ {at src : ℕ} {sizes before : List ℕ} (room : Room at src sizes before) where
  pub onward-first : Onward at src sizes before at src 0 before
  onward-first = record { text = refl; small = room.small; end = refl; source = refl; rest = refl }

  module _ {to from i : ℕ} {out : List ℕ} (o : Onward at src sizes before to from i out) (same : length out ≡ length before) where
    module _ (here : i < length sizes) where
      next_small : (get_or sizes i 0 ≤ 65536) × (any_above 65536 (drop (i + 1) sizes) ≡ false)
      next_small = first_small 65536 (get_or sizes i 0) (drop (i + 1) sizes) (rw (from-here sizes i here) at o.small)

      pub onward-room : ScanRoom to from (i + 1) (get_or sizes i 0) out
      onward-room =
          let ends = o.end in
          let starts = o.source in
          let more = total-scans (i + 1) (drop (i + 1) sizes) in
          let scans = scans-here sizes i here in
          let bytes = total_here sizes i here in
          let gap = room.gap in
          let fits = room.fits in
          record { small = next_small.0; gap = omega arith; fits = omega arith; lines = omega arith }

      pub onward-next : {r : ℕ} {after : List ℕ} → let size = get_or sizes i 0 in
          Laid to (from + size) (scan_text (i + 1) (take size (drop from out))) out after r → Onward at src sizes before r (from + size) (i + 1) after
      onward-next {r} {after} laid =
          let size = get_or sizes i 0 in
          let ds = drop from out in
          let later = scans_text (i + 1) (cut_by (drop (i + 1) sizes) (drop size ds)) in
          let left : drop (from + size) after ≡ drop size ds = laid.back ∙ sym (drop-drop size from out) in
          let text : take r after ++ scans_text (i + 1) (cut_by (drop (i + 1) sizes) (drop (from + size) after))
          ≡ take to out ++ scans_text i (cut_by (drop i sizes) ds) =
          rw (left, laid.front, scans-next sizes i ds here) (append_assoc (take to out) (scan_text (i + 1) (take size ds)) later) in
          let long = length-scan (i + 1) (take size ds) in
          let bytes = total_here sizes i here in
          let scans = scans-here sizes i here in
          let starts = o.source in
          let ends = o.end in
          let whole : length (take size ds) ≡ size = length-take-le size ds (rw (length-drop from out) (omega (arith, room.fits))) in
          record {
            text = text ∙ o.text;
            small = next_small.1;
            end = omega (arith, laid.place, ap (scan_size (i + 1)) whole);
            source = omega arith;
            rest = drop-later (from + size) (src + total sizes) after out (omega arith) laid.back ∙ o.rest;
          }

    pub onward-last : length sizes ≤ i → Laid at (src + total sizes) (scans_text 0 (cut_by sizes (drop src before))) before out to
    unfolding cut_by scans_text
    onward-last past =
        let none : drop i sizes ≡ [] = drop_of_length-le sizes past in
        let text : take to out ≡ take at before ++ scans_text 0 (cut_by sizes (drop src before)) = sym (append-nil (take to out)) ∙ (rw none at o.text) in
        let ends = o.end in
        let done = scans-done sizes i past in
        let gap = room.gap in
        let fits = room.fits in
        let here = length-take-le to out (omega arith) in
        let there = length-take-le at before (omega arith) in
        let sum = length-append (take at before) (scans_text 0 (cut_by sizes (drop src before))) in
        record { place = omega (arith, ap length text); front = text; back = o.rest }
