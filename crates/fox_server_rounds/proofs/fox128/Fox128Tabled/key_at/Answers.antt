-- `fox128::Fox128Tabled::key_at` meets its contract: these words are the definition's.
-- Assumes nothing.
use Rattle.std.proofs.Common.{rules}
use Rattle.fox_rounds.specs.RoundKeys.{round_key_in128}
use Rattle.fox_server_rounds.proofs.fox128.Fox128Tabled.key_at.Goals as goal

pub returns : goal.returns
unfolding round_key_in128
returns c = search rules
