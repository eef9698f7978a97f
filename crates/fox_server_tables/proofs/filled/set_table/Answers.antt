-- `filled::set_table` meets its contract: the table is written over the 256 places after the tables before it.
-- Assumes nothing.
use Rattle.std.proofs.Common.{arith, ◌∙◌}
use Rattle.fox_server_tables.proofs.Laws.Filled.{filled_to-next}
use Rattle.fox_server_tables.proofs.filled.set_table.Goals as goal

pub returns : goal.returns
returns g c whole begun is =
    filled_to-next whole c.args.t.now c.copy_from_slice.new.self c.args.j _ (omega arith) begun (c.copy_from_slice.ensures.after ∙ is) c.requires
