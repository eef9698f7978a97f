-- `tbsm4::tbsm` meets its contract: the tables are written one by one.
-- Assumes nothing.
use Rattle.std.proofs.Common.{rules, refl, sym}
use Rattle.fox_layers.specs.Diffusion.{mu4_rows}
use Rattle.fox_layers.specs.Tables.{TBSM}
use Rattle.fox_layers.proofs.Laws.Tables.{length-TBSM}
use Rattle.fox_server_tables.proofs.Laws.Filled.{table-of, filled_to-all}
use Rattle.fox_server_tables.proofs.tbsm4.tbsm.Goals as goal

pub returns : goal.returns
unfolding mu4_rows
returns c =
    let whole = TBSM mu4_rows in
    let f1 = c.set_table.ensures whole (record { long = sym (length-TBSM mu4_rows); same = refl }) (table-of mu4_rows 0 c.constant.result (search rules) c.constant.ensures) in
    let f2 = c.set_table-2.ensures whole f1 (table-of mu4_rows 1 c.constant-2.result (search rules) c.constant-2.ensures) in
    let f3 = c.set_table-3.ensures whole f2 (table-of mu4_rows 2 c.constant-3.result (search rules) c.constant-3.ensures) in
    let f4 = c.set_table-4.ensures whole f3 (table-of mu4_rows 3 c.constant-4.result (search rules) c.constant-4.ensures) in
    filled_to-all mu4_rows _ f4
