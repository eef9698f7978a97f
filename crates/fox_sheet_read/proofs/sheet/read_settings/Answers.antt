-- `sheet::read_settings` meets its contract: each line is read where the one before it ended.
-- Assumes nothing.
use Rattle.std.proofs.Common.{ap, ◌∙◌, refl}
use Rattle.std.proofs.lemmas.Result.{err_from_is_err_and}
use Rattle.fox_text.specs.Ascii.{codes, ascii}
use Rattle.fox_text.specs.Lines.{after_line, lines}
use Rattle.fox_text.specs.Rules.{broken_in}
use Rattle.fox_text.specs.Names.{cipher_name, rounds_name}
use Rattle.fox_sheet.specs.Sheet.{key_name, setting_tests, said, values_of}
use Rattle.fox_sheet.specs.Reading.{settings_of}
use Rattle.fox_sheet.proofs.Laws.{line-wrong, line-right}
use Rattle.fox_sheet_read.proofs.sheet.read_settings.Goals as goal

pub returns-in_err-cipher : goal.returns-in_err-cipher
unfolding broken_in setting_tests cipher_name rounds_name key_name ascii codes values_of said lines
returns-in_err-cipher c =
    let third = c.after_line-third.ensures.is ∙ ap after_line c.after_line-second.ensures.is in
    let (wrong, number) = line-wrong _ _ 1 c.decimal_line.ensures.number c.ok_or.ensures.value c.in_err-cipher.was in
    let p = err_from_is_err_and c.from_residual.result c.from_residual.ensures.1 in
    record { answer = p.1 ∙ rw (p.2, wrong, number) refl; key = rw third at c.pairs_line-bytes.ensures.stored }

pub returns-in_err-rounds : goal.returns-in_err-rounds
unfolding broken_in setting_tests cipher_name rounds_name key_name ascii codes values_of said lines
returns-in_err-rounds c =
    let second = c.after_line-second.ensures.is in
    let third = c.after_line-third.ensures.is ∙ ap after_line second in
    let (first-right, cipher) = line-right _ _ 1 c.decimal_line.ensures.number c.ok_or.ensures.value c.in_ok-cipher.was in
    let (wrong, number) = line-wrong _ _ 2 (rw second at c.decimal_line-2.ensures.number) c.ok_or-2.ensures.value c.in_err-rounds.was in
    let p = err_from_is_err_and c.from_residual-in_err-rounds.result c.from_residual-in_err-rounds.ensures.1 in
    record { answer = p.1 ∙ rw (p.2, first-right, wrong, number) refl; key = rw third at c.pairs_line-bytes.ensures.stored }

pub returns-in_err-size : goal.returns-in_err-size
unfolding broken_in setting_tests cipher_name rounds_name key_name ascii codes values_of said lines
returns-in_err-size c =
    let second = c.after_line-second.ensures.is in
    let third = c.after_line-third.ensures.is ∙ ap after_line second in
    let (first-right, cipher) = line-right _ _ 1 c.decimal_line.ensures.number c.ok_or.ensures.value c.in_ok-cipher.was in
    let (second-right, rounds) = line-right _ _ 2 (rw second at c.decimal_line-2.ensures.number) c.ok_or-2.ensures.value c.in_ok-rounds.was in
    let (wrong, number) = line-wrong _ _ 3 (rw third at c.pairs_line-bytes.ensures.number) c.ok_or-3.ensures.value c.in_err-size.was in
    let p = err_from_is_err_and c.from_residual-in_err-size.result c.from_residual-in_err-size.ensures.1 in
    record { answer = p.1 ∙ rw (p.2, first-right, second-right, wrong, number) refl; key = rw third at c.pairs_line-bytes.ensures.stored }

pub returns : goal.returns
unfolding broken_in setting_tests cipher_name rounds_name key_name ascii codes values_of said lines settings_of
returns c =
    let second = c.after_line-second.ensures.is in
    let third = c.after_line-third.ensures.is ∙ ap after_line second in
    let (first-right, cipher) = line-right _ _ 1 c.decimal_line.ensures.number c.ok_or.ensures.value c.in_ok-cipher.was in
    let (second-right, rounds) = line-right _ _ 2 (rw second at c.decimal_line-2.ensures.number) c.ok_or-2.ensures.value c.in_ok-rounds.was in
    let (third-right, size) = line-right _ _ 3 (rw third at c.pairs_line-bytes.ensures.number) c.ok_or-3.ensures.value c.in_ok-size.was in
    record { answer = rw (first-right, second-right, third-right, cipher, rounds, size) refl; key = rw third at c.pairs_line-bytes.ensures.stored }
