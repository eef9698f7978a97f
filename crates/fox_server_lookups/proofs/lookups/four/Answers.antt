-- `lookups::four` meets its contract: the XOR is the definition's, bracketed from the left.
-- Assumes nothing.
use Rattle.std.proofs.Common.{refl}
use Rattle.fox_layers.proofs.Laws.Xor.{done, ◌▸◌, running-terms}
use Rattle.fox_server_lookups.proofs.Laws.Lookups.{first}
use Rattle.fox_server_lookups.proofs.lookups.four.Goals as goal

pub returns : goal.returns
returns c = running-terms (first c.args.t.now c.args.a ▸ refl ▸ refl ▸ refl ▸ done)
