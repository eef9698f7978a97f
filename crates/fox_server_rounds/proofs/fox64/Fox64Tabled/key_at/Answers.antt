-- `fox64::Fox64Tabled::key_at` meets its contract: these words are the definition's.
-- Assumes nothing.
use Rattle.std.proofs.Common.{rules}
use Rattle.fox_rounds.specs.RoundKeys.{round_key_in64}
use Rattle.fox_server_rounds.proofs.fox64.Fox64Tabled.key_at.Goals as goal

pub returns : goal.returns
unfolding round_key_in64
returns c = search rules
