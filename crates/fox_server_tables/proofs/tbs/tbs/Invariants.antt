-- The loop of `tbs::tbs`: the first i entries are those of the TBS tables.
-- Assumes nothing.
use Rattle.std.proofs.Common.{◌≡◌, length, take}
use Rattle.fox_layers.specs.Tables.{TBS}
use Rattle.fox_server_tables.proofs.tbs.tbs.Given as goal

abbrev pub invariant-loop-i : goal.invariant-loop-i
invariant-loop-i l = record { long : length l.entry-items ≡ 1024; same : take l.i l.entry-items ≡ take l.i (TBS 4) }
