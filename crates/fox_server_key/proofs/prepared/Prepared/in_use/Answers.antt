-- The bytes in use fit: at most 16 for each of the rounds, which are a u32.
-- Assumes nothing.
use Rattle.std.proofs.Common.{rules}
use Rattle.fox_server_key.proofs.Laws.Prepares.{in_use}
use Rattle.fox_server_key.proofs.prepared.Prepared.in_use.Goals as goal

pub overflow_mul-result : goal.overflow_mul-result
overflow_mul-result c = record { fits = in_use _ _ c.block_size.ensures (search rules) }
