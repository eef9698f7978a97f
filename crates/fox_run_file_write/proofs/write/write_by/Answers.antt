-- `write::write_by` meets its contract: a refused call returns the first refusal that applies and writes nothing; past the refusals the file is written, and its
-- length is the count.
-- Assumes nothing.
use mathlib.Core.Path.{refl, sym}
use Rattle.std.proofs.lemmas.Result.{err_from_is_err_and}
use Rattle.fox_run_file.proofs.Laws.Writes.{refused-writes, served-writes}
use Rattle.fox_run_file_write.proofs.Laws.File.{to_write}
use Rattle.fox_run_file_write.proofs.write.write_by.Goals as goal

pub returns-in_err-size : goal.returns-in_err-size
returns-in_err-size c =
    let err = err_from_is_err_and c.from_residual.result c.from_residual.ensures.1 in
    rw (err.1, err.2) (refused-writes _ c.in_err-size.ensures.refusal)

pub put_file-count-requires : goal.put_file-count-requires
put_file-count-requires c =
    let a = c.args in
    to_write a.p.now a.counter.now a.input.now a.sizes.now a.out.now c.in_ok-size.ensures refl

pub returns : goal.returns
returns c = served-writes (sym c.in_ok-size.ensures.refusal) c.put_file-count.ensures
