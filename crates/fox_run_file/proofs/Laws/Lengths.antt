-- How long the parts of a run file are: what `Sizes` tells from the lengths of the scans alone. Each text is a few texts one after the other, so its length is
-- the sum of theirs; the key stream leaves the length of a scan as it is. And data cut into scans of given lengths has scans of these lengths.
-- Assumes nothing.
use mathlib.Core.Path.{◌≡◌, refl, ap, ◌∙◌}
use mathlib.Core.Bool.{false, ◌||◌, true≢false}
use mathlib.Core.List.{List, [], ◌∷◌, ◌++◌, flatten}
use Prim.Native.Nat.{ℕ, zero, suc, ◌+◌, ◌≤◌, ◌<◌}
use native.Mathlib.Omega.{arith}
use lib.Dec.{ltb}
use lib.ListN.{length, drop, get_or, length-append, length-drop, take-append-drop}
use lib.Seq.{length-take-le}
use borrow.Author.Tests.{ltb-false}
use Rattle.fox_refusals.specs.Refusals.{block_size}
use Rattle.fox_run.specs.Run.{run_with}
use Rattle.fox_run.specs.Cuts.{each_alone}
use Rattle.fox_run.proofs.Laws.Served.{length-run_with}
use Rattle.fox_tag.specs.Tag.{tag_with}
use Rattle.fox_tag.proofs.Tags.{length-tag}
use Rattle.fox_text.specs.Fields.{decimal_line_text, pairs_line_text}
use Rattle.fox_text.proofs.Laws.Tests.{neither, by-test}
use Rattle.fox_text.proofs.Laws.Texts.{length-pairs-text}
use Rattle.fox_run_file.specs.Format.{counter_name, scans_name, close_name, key_lines, header_text, scan_head, scan_text, scans_text, unclosed, closed_by}
use Rattle.fox_run_file.specs.Format.{file_of, turned_scans, run_file, cut_by}
use Rattle.fox_run_file.specs.Sizes.{block_line_size, header_size, scan_size, scans_size, unclosed_size, file_size, total, any_above, past_limit}
use Rattle.fox_run_file.specs.Values.{sizes_of, offset_of}

-- lines and texts

pub length-block-line : (name : List ℕ) (cipher : ℕ) (block : List ℕ) → length block ≡ block_size cipher
    → length (pairs_line_text name block) ≡ block_line_size name cipher
unfolding block_line_size
length-block-line name cipher block size = rw (length-pairs-text name block, size)

pub length-header : (cipher rounds : ℕ) (counter : List ℕ) → length counter ≡ block_size cipher
    → length (header_text cipher rounds counter) ≡ header_size cipher rounds
unfolding header_text header_size
length-header cipher rounds counter size =
    rw (length-append (key_lines cipher rounds) (pairs_line_text counter_name counter), length-block-line counter_name cipher counter size)

pub length-scan : (n : ℕ) (s : List ℕ) → length (scan_text n s) ≡ scan_size n (length s)
unfolding scan_text scan_size
length-scan n s =
    let head = scan_head n (length s) in
    omega (arith, length-append (head ++ s) (10 ∷ []), length-append head s)

pub length-scans : (n : ℕ) (ss : List (List ℕ)) → length (scans_text n ss) ≡ scans_size n (sizes_of ss)
unfolding scans_text scans_size sizes_of
length-scans n [] = refl
length-scans n (s ∷ ss) = rw (length-append (scan_text (suc n) s) (scans_text (suc n) ss), length-scan (suc n) s, length-scans (suc n) ss)

pub length-sizes : (ss : List (List ℕ)) → length (sizes_of ss) ≡ length ss
unfolding sizes_of
length-sizes [] = refl
length-sizes (s ∷ ss) = ap suc (length-sizes ss)

module _ (cipher rounds : ℕ) (counter : List ℕ) (sealed : List (List ℕ)) (size : length counter ≡ block_size cipher) where
  pub length-unclosed : length (unclosed cipher rounds counter sealed) ≡ unclosed_size cipher rounds (sizes_of sealed)
  unfolding unclosed unclosed_size
  length-unclosed =
      let head = header_text cipher rounds counter in
      rw (
        length-append (head ++ scans_text 0 sealed) (decimal_line_text scans_name (length sealed)),
        length-append head (scans_text 0 sealed),
        length-header cipher rounds counter size,
        length-scans 0 sealed,
        length-sizes sealed,
      )

  pub length-file : (rks : List ℕ) → length (file_of cipher rounds rks counter sealed) ≡ file_size cipher rounds (sizes_of sealed)
  unfolding file_of closed_by file_size
  length-file rks =
      let text = unclosed cipher rounds counter sealed in
      let tag = tag_with cipher rks text in
      rw (length-append text (pairs_line_text close_name tag), length-unclosed, length-block-line close_name cipher tag (length-tag cipher rks text))

-- scans sealed or opened

sizes-alone : (cipher : ℕ) (rks counter : List ℕ) (n : ℕ) (scans : List (List ℕ))
    → sizes_of (each_alone (run_with cipher rks counter) n scans) ≡ sizes_of scans
unfolding each_alone sizes_of
sizes-alone cipher rks counter n [] = refl
sizes-alone cipher rks counter n (s ∷ ss) = rw (length-run_with cipher rks counter n s, sizes-alone cipher rks counter (n + length s) ss)

pub sizes-turned : (cipher : ℕ) (rks counter : List ℕ) (scans : List (List ℕ)) → sizes_of (turned_scans cipher rks counter scans) ≡ sizes_of scans
unfolding turned_scans
sizes-turned cipher rks counter scans = sizes-alone cipher rks counter 0 scans

pub length-run-file : (cipher rounds : ℕ) (rks counter : List ℕ) (scans : List (List ℕ)) → length counter ≡ block_size cipher
    → length (run_file cipher rounds rks counter scans) ≡ file_size cipher rounds (sizes_of scans)
unfolding run_file
length-run-file cipher rounds rks counter scans size =
    length-file cipher rounds counter (turned_scans cipher rks counter scans) size rks
    ∙ ap (file_size cipher rounds) (sizes-turned cipher rks counter scans)

-- data cut into scans

pub sizes-cut : (sizes input : List ℕ) → total sizes ≤ length input → sizes_of (cut_by sizes input) ≡ sizes
unfolding total sizes_of cut_by
sizes-cut [] input h = refl
sizes-cut (n ∷ ns) input h =
    rw (length-take-le n input (omega arith), sizes-cut ns (drop n input) (omega (arith, length-drop n input)))

pub cut-joined : (sizes input : List ℕ) → total sizes ≡ length input → flatten (cut_by sizes input) ≡ input
unfolding total cut_by flatten
cut-joined [] [] h = refl
cut-joined [] (x ∷ xs) h = absurd (omega arith)
cut-joined (n ∷ ns) input h = rw (cut-joined ns (drop n input) (omega (arith, length-drop n input))) (take-append-drop n input)

-- the file of data cut so
pub length-cut-file : (cipher rounds : ℕ) (rks counter input sizes : List ℕ) → length counter ≡ block_size cipher → total sizes ≤ length input
    → length (run_file cipher rounds rks counter (cut_by sizes input)) ≡ file_size cipher rounds sizes
length-cut-file cipher rounds rks counter input sizes size fits =
    length-run-file cipher rounds rks counter (cut_by sizes input) size ∙ ap (file_size cipher rounds) (sizes-cut sizes input fits)

-- what holds where lengths are not past a limit

pub record Limits (cipher rounds : ℕ) (sizes : List ℕ) : Type 0 where
  pub many : length sizes ≤ 65535
  pub each : any_above 65536 sizes ≡ false
  pub all : unclosed_size cipher rounds sizes ≤ 1073741824

pub limits : (cipher rounds : ℕ) (sizes : List ℕ) → past_limit cipher rounds sizes ≡ false → Limits cipher rounds sizes
unfolding past_limit
limits cipher rounds sizes e =
    let (first, all) = neither (ltb 65535 (length sizes) || any_above 65536 sizes) (ltb 1073741824 (unclosed_size cipher rounds sizes)) e in
    let (many, each) = neither (ltb 65535 (length sizes)) (any_above 65536 sizes) first in
    record { many = ltb-false 65535 (length sizes) many; each = each; all = ltb-false 1073741824 (unclosed_size cipher rounds sizes) all }

-- each length of the list, one by one
pub first_small : (limit n : ℕ) (ns : List ℕ) → any_above limit (n ∷ ns) ≡ false → (n ≤ limit) × (any_above limit ns ≡ false)
unfolding any_above
first_small limit n ns e = by-test (ltb limit n) (λ t. absurd (true≢false (rw t at e))) (λ t. (ltb-false limit n t, rw t at e))

-- the bytes of the scans are among those before the line `close`
pub total-scans : (n : ℕ) (sizes : List ℕ) → total sizes ≤ scans_size n sizes
unfolding total scans_size scan_size
total-scans n [] = omega arith
total-scans n (s ∷ ss) = omega (arith, total-scans (suc n) ss)

-- a scan is as long as its entry among the lengths, and ends within all of them
pub size-at : (k : ℕ) (ss : List (List ℕ)) → length (get_or ss k []) ≡ get_or (sizes_of ss) k 0
unfolding sizes_of
size-at k [] = refl
size-at zero (s ∷ ss) = refl
size-at (suc k) (s ∷ ss) = size-at k ss

pub scan-small : (limit k : ℕ) (ss : List (List ℕ)) → any_above limit (sizes_of ss) ≡ false → length (get_or ss k []) ≤ limit
unfolding sizes_of
scan-small limit k [] e = omega arith
scan-small limit zero (s ∷ ss) e = (first_small limit (length s) (sizes_of ss) e).0
scan-small limit (suc k) (s ∷ ss) e = scan-small limit k ss (first_small limit (length s) (sizes_of ss) e).1

pub scan-within : (k : ℕ) (ss : List (List ℕ)) → k < length ss → offset_of k ss + length (get_or ss k []) ≤ total (sizes_of ss)
unfolding sizes_of offset_of total
scan-within k [] h = absurd (omega arith)
scan-within zero (s ∷ ss) h = omega arith
scan-within (suc k) (s ∷ ss) h = omega (arith, scan-within k ss (omega arith))

pub total-within : (cipher rounds : ℕ) (sizes : List ℕ) → total sizes ≤ unclosed_size cipher rounds sizes
unfolding unclosed_size
total-within cipher rounds sizes = omega (arith, total-scans 0 sizes)
