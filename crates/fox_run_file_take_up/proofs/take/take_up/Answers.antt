-- `take::take_up` meets its contract: the tests of key, text and tag are those of the list, in the list's order, and a file is taken up where none applies.
-- Assumes nothing.
use mathlib.Core.Path.{sym}
use Rattle.std.proofs.lemmas.Result.{err_from_is_err_and}
use Rattle.fox_refusals.proofs.Laws.Refusals.{keyed}
use Rattle.fox_refusals.proofs.Laws.Reply.{number_not_zero}
use Rattle.fox_run_file.proofs.Laws.Refusals.{few-digits}
use Rattle.fox_run_file_take_up.proofs.Laws.Taken.{of-key, of-text, of-tag, text-right, refused-taken, served-taken}
use Rattle.fox_run_file_take_up.proofs.take.take_up.Goals as goal

pub returns-in_err-for_key : goal.returns-in_err-for_key
returns-in_err-for_key c =
    let err = err_from_is_err_and c.from_residual.result c.from_residual.ensures.1 in
    rw (err.1, err.2) (refused-taken _ _ _ _ _ _ (of-key _ _ _ _ _ c.in_err-for_key.ensures (number_not_zero _)))

pub of_text-requires : goal.of_text-requires
of_text-requires c = few-digits (keyed _ _ _ (sym c.in_ok-for_key.ensures))

pub returns-in_err-of_text : goal.returns-in_err-of_text
returns-in_err-of_text c =
    let residual = c.from_residual-in_err-of_text in
    let err = err_from_is_err_and residual.result residual.ensures.1 in
    rw (err.1, err.2) (refused-taken _ _ _ _ _ _ (of-text _ _ _ _ _ (sym c.in_ok-for_key.ensures) c.in_err-of_text.ensures (number_not_zero _)))

pub of_tag-requires : goal.of_tag-requires
of_tag-requires c = (keyed _ _ _ (sym c.in_ok-for_key.ensures), text-right _ _ _ (sym c.in_ok-of_text.ensures))

pub returns-in_err-of_tag : goal.returns-in_err-of_tag
returns-in_err-of_tag c =
    let residual = c.from_residual-in_err-of_tag in
    let err = err_from_is_err_and residual.result residual.ensures.1 in
    rw (err.1, err.2)
    (refused-taken _ _ _ _ _ _ (of-tag _ _ _ _ _ (sym c.in_ok-for_key.ensures) (sym c.in_ok-of_text.ensures) c.in_err-of_tag.ensures))

pub header_size-requires : goal.header_size-requires
header_size-requires c = few-digits (keyed _ _ _ (sym c.in_ok-for_key.ensures))

pub returns : goal.returns
returns c =
    served-taken _ _ _ _ _ (sym (of-tag _ _ _ _ _ (sym c.in_ok-for_key.ensures) (sym c.in_ok-of_text.ensures) c.in_ok-of_tag.ensures))
    c.header_size.ensures
