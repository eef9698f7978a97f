-- `read::read_at` meets its contract: the run's call is given the header's counter block, the place's offset and the scan's bytes, and its refusal, if any, is
-- the reader's.
-- Assumes nothing.
use mathlib.Core.Path.{refl, ◌∙◌}
use native.Mathlib.Omega.{arith}
use Rattle.std.proofs.lemmas.Result.{err_from_is_err_and}
use Rattle.fox_refusals.proofs.Laws.Reply.{number_not_zero}
use Rattle.fox_run_file.proofs.Laws.Lines.{block-small}
use Rattle.fox_run_file_read.proofs.Laws.Found.{moved, movable}
use Rattle.fox_run_file_read.proofs.Laws.Opened.{bytes-there, ended, size-told, run-refused, run-opened}
use Rattle.fox_run_file_read.proofs.read.read_at.Goals as goal

pub returns-in_default : goal.returns-in_default
returns-in_default c = ended _ _ _ _ _ _ c.in_default.ensures

pub counter_of-n-requires : goal.counter_of-n-requires
counter_of-n-requires c = block-small _

pub overflow_add-first : goal.overflow_add-first
overflow_add-first c = omega (arith, c.in-Some.ensures.ends, c.well_formed.1.0.0)

pub overflow_add-end : goal.overflow_add-end
overflow_add-end c = omega (arith, c.in-Some.ensures.ends, c.well_formed.1.0.0)

pub returns-in_err-size : goal.returns-in_err-size
returns-in_err-size c =
    let err = err_from_is_err_and c.from_residual.result c.from_residual.ensures.1 in
    let stands = c.in-Some.ensures in
    rw (err.1, err.2)
    (run-refused _ _ _ _ _ _ stands.there (rw (c.counter_of-n.ensures.part, bytes-there stands) at c.in_err-size.ensures) (number_not_zero _))

pub after-next-requires : goal.after-next-requires
after-next-requires c = movable c.in-Some.ensures c.well_formed.1.0.0

pub returns : goal.returns
returns c =
    let stands = c.in-Some.ensures in
    let call = rw (c.counter_of-n.ensures.part, bytes-there stands) at c.in_ok-size.ensures in
    run-opened _ _ _ _ _ _ stands.there call refl (size-told _ _ _ _ _ _ stands.there call refl) (c.after-next.ensures ∙ moved stands)
