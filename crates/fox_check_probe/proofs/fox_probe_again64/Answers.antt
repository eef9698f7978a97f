-- `fox_probe_again64` meets its contract: its state has the left word of the block.
-- Assumes nothing.
use Rattle.fox_rounds.specs.RoundKeys.{round_keys_in64}
use Rattle.fox_check_probe.proofs.LeftWords.{left-64}
use Rattle.fox_check_probe.proofs.fox_probe_again64.Goals as goal

pub returns : goal.returns
returns c = left-64 (round_keys_in64 c.args.keys.now 16) _ c.args.blocks c.again.ensures
