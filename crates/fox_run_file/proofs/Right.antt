-- A file that is taken up is a written one. Where header and rest are right, each part of the file is there as it would be written, so that the file is the
-- text of what it says, closed by a tag; where the tag is right too, it is the file that is written of these values.
-- Assumes nothing.
use mathlib.Core.Path.{◌≡◌, sym, ap, ◌∙◌}
use mathlib.Core.Bool.{true}
use mathlib.Core.List.{List, ◌++◌, append_assoc}
use Prim.Native.Nat.{ℕ, ◌≤◌}
use lib.ListN.{length}
use lib.Dec.{leb}
use borrow.Author.Tests.{leb-true, le-ltb}
use Rattle.fox_refusals.specs.Refusals.{refusal_of, Keyed}
use Rattle.fox_tag.specs.Tag.{tag_with}
use Rattle.fox_text.proofs.Laws.Tests.{both}
use Rattle.fox_run_file.specs.Format.{close_name, header_text, scans_text, unclosed, closed_by, file_of, run_file}
use Rattle.fox_run_file.specs.Sizes.{past_limit}
use Rattle.fox_run_file.specs.Says.{block_in, is_header, counter_in, after_scans, close_text, is_end, scans_from, scans_of, before_close, close_in, is_rest}
use Rattle.fox_run_file.specs.Refusals.{for_take_up}
use Rattle.fox_run_file.specs.Values.{IsWritten, IsRunFile}
use Rattle.fox_run_file.proofs.Laws.Lengths.{length-sizes, length-unclosed}
use Rattle.fox_run_file.proofs.Laws.Written.{closed-before, closed-tag}
use Rattle.fox_run_file.proofs.Laws.Again.{header-first, scans-first, is-end}
use Rattle.fox_run_file.proofs.Laws.Turned.{turned-twice}
use Rattle.fox_run_file.proofs.Laws.TakeUp.{passes}
use Rattle.fox_run_file.proofs.Written.{turned-range}

pub right-is-written : (cipher rounds : ℕ) (file : List ℕ) → is_header cipher rounds file ≡ true → is_rest cipher rounds file ≡ true
    → IsWritten cipher rounds file
unfolding is_rest scans_of unclosed closed_by past_limit
right-is-written cipher rounds file header rest =
    let counter = counter_in cipher rounds file in
    let from = scans_from cipher rounds file in
    let scans = scans_of cipher rounds file in
    let after = after_scans 65535 0 from in
    let (ended, within) = both (is_end cipher (length scans) after) (leb (length (before_close cipher file)) 1073741824) rest in
    let H = header-first cipher rounds file header in
    let S = scans-first 65535 0 from in
    let E = is-end cipher (length scans) after ended in
    let tag = block_in close_name cipher (close_text (length scans) after) in
    let text = unclosed cipher rounds counter scans in
    let whole : file ≡ closed_by tag text =
    H.text ∙ ap (λ (t : List ℕ). header_text cipher rounds counter ++ t) (S.text ∙ ap (λ (t : List ℕ). scans_text 0 scans ++ t) E.text)
    ∙ simp append_assoc in
    let before : before_close cipher file ≡ text = ap (before_close cipher) whole ∙ closed-before cipher tag text E.size in
    let stored : close_in cipher file ≡ tag = ap (close_in cipher) whole ∙ closed-tag cipher tag text E.size E.bytes in
    let small : length text ≤ 1073741824 = rw before at (leb-true (length (before_close cipher file)) 1073741824 within) in
    record {
      text = rw stored whole;
      before_close = before;
      values =
          record {
            block = H.block;
            bytes = H.bytes;
            limits =
                rw (length-sizes scans, le-ltb 65535 (length scans) S.few, S.small, ← length-unclosed cipher rounds counter scans H.block)
                (le-ltb 1073741824 (length text) small);
          };
      tag = rw stored E.size;
      bytes = rw stored E.bytes;
    }

-- a file that is taken up

pub taken-is-written : (cipher rounds key_len : ℕ) (rks file : List ℕ) → refusal_of (for_take_up cipher rounds key_len rks file) ≡ 0
    → Keyed cipher rounds key_len × IsRunFile cipher rounds rks file (counter_in cipher rounds file) (scans_of cipher rounds file)
unfolding file_of run_file
taken-is-written cipher rounds key_len rks file e =
    let p = passes cipher rounds key_len rks file e in
    let w = right-is-written cipher rounds file p.header p.rest in
    let counter = counter_in cipher rounds file in
    let scans = scans_of cipher rounds file in
    let text = unclosed cipher rounds counter scans in
    let tag : close_in cipher file ≡ tag_with cipher rks text = sym p.tag ∙ ap (tag_with cipher rks) w.before_close in
    let sealed : file ≡ file_of cipher rounds rks counter scans = w.text ∙ ap (λ (g : List ℕ). closed_by g text) tag in (
      p.keyed,
      record {
        values = w.values;
        text = sealed;
        plain_values = turned-range cipher rounds rks counter scans w.values;
        plain_text = sealed ∙ ap (file_of cipher rounds rks counter) (sym (turned-twice cipher rks counter scans));
      },
    )
