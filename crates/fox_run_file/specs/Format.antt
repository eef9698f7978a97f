-- The run file as it is written (02, order 4): a header, the scans one after the other, their number, and the tag of all this.
-- Assumes nothing.
use Rattle.std.specs.Prelude.{ℕ, suc, List, [], ◌∷◌, ◌++◌, length, take, drop}
use Rattle.fox_run.specs.Run.{run_with}
use Rattle.fox_run.specs.Cuts.{each_alone}
use Rattle.fox_tag.specs.Tag.{tag_with}
use Rattle.fox_text.specs.Ascii.{ascii}
use Rattle.fox_text.specs.Names.{cipher_name, rounds_name}
use Rattle.fox_text.specs.Fields.{decimal_line_text, pairs_line_text}

unfoldable pub format_text : List ℕ
format_text = ascii "format=run\n"

unfoldable pub counter_name : List ℕ
counter_name = ascii "counter="

unfoldable pub scan_name : List ℕ
scan_name = ascii "scan="

unfoldable pub bytes_name : List ℕ
bytes_name = ascii "bytes="

unfoldable pub scans_name : List ℕ
scans_name = ascii "scans="

unfoldable pub close_name : List ℕ
close_name = ascii "close="

-- the first three lines, which the key's cipher and rounds settle
unfoldable pub key_lines : ℕ → ℕ → List ℕ
key_lines cipher rounds = format_text ++ decimal_line_text cipher_name cipher ++ decimal_line_text rounds_name rounds

unfoldable pub header_text : ℕ → ℕ → List ℕ → List ℕ
header_text cipher rounds counter = key_lines cipher rounds ++ pairs_line_text counter_name counter

-- the two lines before the bytes of a scan: its number, and how many bytes it has
unfoldable pub scan_head : ℕ → ℕ → List ℕ
scan_head number size = decimal_line_text scan_name number ++ decimal_line_text bytes_name size

unfoldable pub scan_text : ℕ → List ℕ → List ℕ
scan_text number bytes = scan_head number (length bytes) ++ bytes ++ (10 ∷ [])

-- scans one after the other, where n scans come before them
unfoldable pub scans_text : ℕ → List (List ℕ) → List ℕ
scans_text n [] = []
scans_text n (s ∷ ss) = scan_text (suc n) s ++ scans_text (suc n) ss

-- all that comes before the line `close`, from the sealed scans
unfoldable pub unclosed : ℕ → ℕ → List ℕ → List (List ℕ) → List ℕ
unclosed cipher rounds counter sealed =
    header_text cipher rounds counter ++ scans_text 0 sealed ++ decimal_line_text scans_name (length sealed)

-- a text and the line `close`
unfoldable pub closed_by : List ℕ → List ℕ → List ℕ
closed_by tag text = text ++ pairs_line_text close_name tag

-- the file of sealed scans: closed by the tag of all that comes before
unfoldable pub file_of : ℕ → ℕ → List ℕ → List ℕ → List (List ℕ) → List ℕ
file_of cipher rounds rks counter sealed =
    let text = unclosed cipher rounds counter sealed in
    closed_by (tag_with cipher rks text) text

-- plain scans, sealed: their bytes take their place in the run after those of earlier scans. Opening them is the same
unfoldable pub turned_scans : ℕ → List ℕ → List ℕ → List (List ℕ) → List (List ℕ)
turned_scans cipher rks counter scans = each_alone (run_with cipher rks counter) 0 scans

-- the run file of round keys, counter block and plain scans
unfoldable pub run_file : ℕ → ℕ → List ℕ → List ℕ → List (List ℕ) → List ℕ
run_file cipher rounds rks counter scans = file_of cipher rounds rks counter (turned_scans cipher rks counter scans)

-- data cut into scans of these lengths
unfoldable pub cut_by : List ℕ → List ℕ → List (List ℕ)
cut_by [] ds = []
cut_by (n ∷ ns) ds = take n ds ∷ cut_by ns (drop n ds)
