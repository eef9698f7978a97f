-- `key::Key::mkey` meets its contract: the test on the key's length is the definition's, and a key of full length is all of its bytes.
-- Assumes nothing.
use Rattle.std.proofs.Common.{arith, ◌*◌, sym, ◌∙◌}
use lib.Seq.{take_all}
use Rattle.fox_key_mixing.proofs.Laws.Mixing.{mkey-short, mkey-full}
use Rattle.fox_key_mixing.proofs.key.Key.mkey.Goals as goal

pub returns-then-key : goal.returns-then-key
returns-then-key g c = c.load.ensures ∙ c.mixed_bytes.ensures ∙ sym (mkey-short (g.row.N * 8) c.args.key.now (omega arith))

pub returns-else-key : goal.returns-else-key
returns-else-key g c =
    let key = c.args.key.now in
    c.load-else-key.ensures ∙ take_all (g.row.N * 8) key (omega arith) ∙ sym (mkey-full (g.row.N * 8) key (omega arith))
