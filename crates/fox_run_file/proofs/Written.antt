-- A run file that is written from values in range is right and says them: it is its parts one after the other, and each is read as it was written. It says so
-- whatever its tag; with the right tag it is taken up. Its scans, opened, are the plain scans again, since opening is the same XOR as sealing; joined they are
-- the run of the joined plain scans, and each is its stretch of that run.
-- Assumes nothing.
use mathlib.Core.Path.{◌≡◌, refl, ap, ◌∙◌}
use mathlib.Core.Bool.{true}
use mathlib.Core.List.{List, [], ◌++◌, flatten, append_assoc}
use Prim.Native.Nat.{ℕ, ◌≤◌}
use native.Mathlib.Omega.{arith}
use lib.ListN.{length, take, drop, get_or}
use lib.Seq.{drop-append_seam, drop_at}
use borrow.Author.Tests.{le-leb}
use Rattle.fox_layers.specs.Words.{Bytes}
use Rattle.fox_refusals.specs.Refusals.{refusal_of, block_size, Keyed}
use Rattle.fox_refusals.proofs.Laws.Refusals.{same_refl}
use Rattle.fox_run.specs.Run.{run_with}
use Rattle.fox_run.proofs.Stretches.{cut-run, stretch-of-run}
use Rattle.fox_tag.specs.Cmac.{cmac}
use Rattle.fox_tag.specs.Tag.{tag_with}
use Rattle.fox_tag.proofs.Laws.States.{zero-block, chained-block}
use Rattle.fox_tag.proofs.Tags.{length-tag}
use Rattle.fox_text.specs.Fields.{decimal_line_text, pairs_line_text}
use Rattle.fox_text.proofs.Laws.Values.{starts-written}
use Rattle.fox_run_file.specs.Format.{counter_name, scans_name, close_name, key_lines, header_text, scans_text, unclosed, closed_by}
use Rattle.fox_run_file.specs.Format.{file_of, turned_scans, run_file, cut_by}
use Rattle.fox_run_file.specs.Sizes.{total, past_limit}
use Rattle.fox_run_file.specs.Says.{is_header, counter_in, after_scans, scans_from, scans_of, is_rest}
use Rattle.fox_run_file.specs.Refusals.{for_take_up}
use Rattle.fox_run_file.specs.Values.{sizes_of, offset_of, InRange, Says}
use Rattle.fox_run_file.proofs.Laws.Lengths.{length-header, length-sizes, length-unclosed, sizes-turned, cut-joined, limits}
use Rattle.fox_run_file.proofs.Laws.Written.{counter-plain, block_read, block-right, scans-no-scan, end-right, closed-before, closed-tag, scans-read}
use Rattle.fox_run_file.proofs.Laws.Turned.{turned-twice, turned-at, scan-joined}
use Rattle.fox_run_file.proofs.Laws.TakeUp.{take-up-verdict}

-- a tag is made of bytes
pub bytes-of-tag : (cipher : ℕ) (rks message : List ℕ) → Bytes (tag_with cipher rks message)
unfolding tag_with cmac
bytes-of-tag cipher rks message = (chained-block cipher rks _ _ (zero-block cipher)).bytes

-- what a written file says, whatever its tag

module _ (cipher rounds : ℕ) (counter : List ℕ) (sealed : List (List ℕ)) (tag : List ℕ) where
  abbrev text : List ℕ
  text = unclosed cipher rounds counter sealed

  abbrev file : List ℕ
  file = closed_by tag text

  abbrev end : List ℕ
  end = decimal_line_text scans_name (length sealed) ++ pairs_line_text close_name tag

  after-header : file ≡ header_text cipher rounds counter ++ (scans_text 0 sealed ++ end)
  unfolding closed_by unclosed
  after-header = simp append_assoc

  after-key-lines : file ≡ key_lines cipher rounds ++ (pairs_line_text counter_name counter ++ (scans_text 0 sealed ++ end))
  unfolding header_text
  after-key-lines = after-header ∙ append_assoc (key_lines cipher rounds) (pairs_line_text counter_name counter) (scans_text 0 sealed ++ end)

  module _ (range : InRange cipher rounds counter sealed) (size : length tag ≡ block_size cipher) (bytes : Bytes tag) where
    says-header : is_header cipher rounds file ≡ true
    unfolding is_header
    says-header =
        rw (after-key-lines, starts-written (key_lines cipher rounds) _, drop-append_seam (key_lines cipher rounds) _)
        (block-right counter_name cipher counter _ counter-plain range.block range.bytes)

    says-counter : counter_in cipher rounds file ≡ counter
    unfolding counter_in
    says-counter =
        rw (after-key-lines, drop-append_seam (key_lines cipher rounds) _)
        (block_read counter_name cipher counter _ counter-plain range.block range.bytes)

    scans-place : scans_from cipher rounds file ≡ scans_text 0 sealed ++ end
    scans-place = rw after-header (drop_at (header_text cipher rounds counter) _ _ (length-header cipher rounds counter range.block))

    says-scans : (scans_of cipher rounds file ≡ sealed) × (after_scans 65535 0 (scans_from cipher rounds file) ≡ end)
    unfolding scans_of
    says-scans =
        let known = limits cipher rounds (sizes_of sealed) range.limits in
        rw scans-place (scans-read end (λ n. scans-no-scan n _ _) 65535 0 sealed (omega (arith, known.many, length-sizes sealed)) known.each)

    says-rest : is_rest cipher rounds file ≡ true
    unfolding is_rest
    says-rest =
        let known = limits cipher rounds (sizes_of sealed) range.limits in
        let few : length text ≤ 1073741824 = omega (arith, known.all, length-unclosed cipher rounds counter sealed range.block) in
        rw (says-scans.0, says-scans.1, end-right cipher (length sealed) tag size bytes, closed-before cipher tag text size)
        (le-leb (length text) 1073741824 few)

    pub written-says : Says cipher rounds (closed_by tag (unclosed cipher rounds counter sealed)) counter sealed (unclosed cipher rounds counter sealed) tag
    written-says =
        record {
          header = says-header;
          rest = says-rest;
          block = says-counter;
          scans = says-scans.0;
          text = closed-before cipher tag text size;
          tag = closed-tag cipher tag text size bytes;
        }

-- a file that is right and has the right tag is taken up
pub right-taken : {cipher rounds key_len : ℕ} {file counter text tag : List ℕ} {sealed : List (List ℕ)} (rks : List ℕ) → Keyed cipher rounds key_len
    → Says cipher rounds file counter sealed text tag → tag ≡ tag_with cipher rks text → refusal_of (for_take_up cipher rounds key_len rks file) ≡ 0
right-taken {file = file} {tag = tag} rks keyed says right =
    take-up-verdict keyed rks file ∙ rw (says.header, says.rest, says.text, says.tag, ← right, same_refl tag)

-- the scans of a file, sealed or opened: joined they are the run of the joined scans, and each is its stretch of that run

module _ (cipher : ℕ) (rks counter : List ℕ) where
  pub turned-joined : (scans : List (List ℕ)) → flatten (turned_scans cipher rks counter scans) ≡ run_with cipher rks counter 0 (flatten scans)
  unfolding turned_scans
  turned-joined scans = cut-run cipher rks counter 0 scans

  -- data cut into scans: its sealed scans, joined, are its run
  pub turned-cut-joined : (sizes input : List ℕ) → total sizes ≡ length input
      → flatten (turned_scans cipher rks counter (cut_by sizes input)) ≡ run_with cipher rks counter 0 input
  turned-cut-joined sizes input fits = turned-joined (cut_by sizes input) ∙ ap (run_with cipher rks counter 0) (cut-joined sizes input fits)

  -- scan k, opened alone, is its stretch of the whole run opened
  pub scan-of-run : (k : ℕ) (scans : List (List ℕ))
      → get_or (turned_scans cipher rks counter scans) k []
      ≡ take (length (get_or scans k [])) (drop (offset_of k scans) (run_with cipher rks counter 0 (flatten scans)))
  scan-of-run k scans =
      turned-at cipher rks counter k scans
      ∙ ap (run_with cipher rks counter (offset_of k scans)) (scan-joined k scans)
      ∙ stretch-of-run cipher rks counter (flatten scans) (offset_of k scans) (length (get_or scans k []))

-- the file of sealed scans in range says them, and is taken up

module _ (cipher rounds : ℕ) (rks counter : List ℕ) (sealed : List (List ℕ)) (range : InRange cipher rounds counter sealed) where
  pub file-says : let text = unclosed cipher rounds counter sealed in
      Says cipher rounds (file_of cipher rounds rks counter sealed) counter sealed text (tag_with cipher rks text)
  unfolding file_of
  file-says = written-says cipher rounds counter sealed _ range (length-tag cipher rks _) (bytes-of-tag cipher rks _)

  pub file-taken : (key_len : ℕ) → Keyed cipher rounds key_len → refusal_of (for_take_up cipher rounds key_len rks (file_of cipher rounds rks counter sealed)) ≡ 0
  file-taken key_len keyed = right-taken rks keyed file-says refl

-- so is the run file of plain scans in range, and its scans, opened, are the plain scans

module _ (cipher rounds : ℕ) (rks counter : List ℕ) (scans : List (List ℕ)) (range : InRange cipher rounds counter scans) where
  pub turned-range : InRange cipher rounds counter (turned_scans cipher rks counter scans)
  turned-range =
      record { block = range.block; bytes = range.bytes; limits = ap (past_limit cipher rounds) (sizes-turned cipher rks counter scans) ∙ range.limits }

  pub run-file-says : let sealed = turned_scans cipher rks counter scans in
      let text = unclosed cipher rounds counter sealed in
      Says cipher rounds (run_file cipher rounds rks counter scans) counter sealed text (tag_with cipher rks text)
  unfolding run_file
  run-file-says = file-says cipher rounds rks counter _ turned-range

  pub written-taken : (key_len : ℕ) → Keyed cipher rounds key_len → refusal_of (for_take_up cipher rounds key_len rks (run_file cipher rounds rks counter scans)) ≡ 0
  unfolding run_file
  written-taken key_len keyed = file-taken cipher rounds rks counter _ turned-range key_len keyed

  pub written-opened : let file = run_file cipher rounds rks counter scans in
      turned_scans cipher rks (counter_in cipher rounds file) (scans_of cipher rounds file) ≡ scans
  written-opened = rw (run-file-says.block, run-file-says.scans) (turned-twice cipher rks counter scans)
