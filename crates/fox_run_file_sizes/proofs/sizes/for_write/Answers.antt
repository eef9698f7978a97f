-- `sizes::for_write` meets its contract: past the key's tests cipher and rounds have at most five digits, and the output is the last test.
-- Assumes nothing.
use mathlib.Core.Path.{sym}
use mathlib.Core.Bool.{true}
use Rattle.std.proofs.lemmas.Result.{err_from_is_err_and}
use Rattle.fox_refusals.proofs.Laws.Refusals.{turnable}
use Rattle.fox_run_file.proofs.Laws.Refusals.{few-digits}
use Rattle.fox_run_file_sizes.proofs.Laws.Tests.{small_room}
use Rattle.fox_run_file_sizes.proofs.sizes.for_write.Goals as goal

pub file_size-requires : goal.file_size-requires
file_size-requires c = few-digits (turnable true _ _ _ (sym c.in_ok-for_turn.ensures)).0

pub returns-in_err-refuse-3 : goal.returns-in_err-refuse-3
returns-in_err-refuse-3 c =
    let residual = c.from_residual-in_err-refuse-3 in
    let err = err_from_is_err_and residual.result residual.ensures.1 in
    let room =
    small_room _ _ _ _ _ _ _ _ (sym c.in_ok-for_turn.ensures) (sym (rw c.block_size.ensures at c.in_ok-refuse.ensures))
    (rw c.in_ok-s.ensures.ok_part at c.file_size.ensures) (sym c.in_ok-refuse-2.ensures) c.in_err-refuse-3.ensures in
    rw (err.1, err.2) room
