-- `tbsm8::tbsm` meets its contract: the tables are written one by one.
-- Assumes nothing.
use Rattle.std.proofs.Common.{rules, refl, sym}
use Rattle.fox_layers.specs.Diffusion.{mu8_rows}
use Rattle.fox_layers.specs.Tables.{TBSM}
use Rattle.fox_layers.proofs.Laws.Tables.{length-TBSM}
use Rattle.fox_server_tables.proofs.Laws.Filled.{table-of, filled_to-all}
use Rattle.fox_server_tables.proofs.tbsm8.tbsm.Goals as goal

pub returns : goal.returns
unfolding mu8_rows
returns c =
    let whole = TBSM mu8_rows in
    let f1 = c.set_table.ensures whole (record { long = sym (length-TBSM mu8_rows); same = refl }) (table-of mu8_rows 0 c.constant.result (search rules) c.constant.ensures) in
    let f2 = c.set_table-2.ensures whole f1 (table-of mu8_rows 1 c.constant-2.result (search rules) c.constant-2.ensures) in
    let f3 = c.set_table-3.ensures whole f2 (table-of mu8_rows 2 c.constant-3.result (search rules) c.constant-3.ensures) in
    let f4 = c.set_table-4.ensures whole f3 (table-of mu8_rows 3 c.constant-4.result (search rules) c.constant-4.ensures) in
    let f5 = c.set_table-5.ensures whole f4 (table-of mu8_rows 4 c.constant-5.result (search rules) c.constant-5.ensures) in
    let f6 = c.set_table-6.ensures whole f5 (table-of mu8_rows 5 c.constant-6.result (search rules) c.constant-6.ensures) in
    let f7 = c.set_table-7.ensures whole f6 (table-of mu8_rows 6 c.constant-7.result (search rules) c.constant-7.ensures) in
    let f8 = c.set_table-8.ensures whole f7 (table-of mu8_rows 7 c.constant-8.result (search rules) c.constant-8.ensures) in
    filled_to-all mu8_rows _ f8
