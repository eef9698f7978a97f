-- `last::subkey` meets its contract: doubled once for a whole last block, and twice for any other.
-- Assumes nothing.
use Rattle.std.proofs.Common.{sym, ap, ap₂, ◌∙◌, length}
use Rattle.fox_tag.specs.Cmac.{doubled, subkey_of}
use Rattle.fox_engine_subkeys.proofs.last.subkey.Goals as goal

pub returns-then-not-whole : goal.returns-then-not-whole
unfolding subkey_of
returns-then-not-whole c =
    let a = c.args in
    c.double-then-not-whole.ensures
    ∙ ap₂ doubled c.double.auto.block c.double.ensures
    ∙ ap (subkey_of (length a.block.now) a.block.now) (sym c.if-not-whole.true)

pub returns-else-not-whole : goal.returns-else-not-whole
unfolding subkey_of
returns-else-not-whole c =
    let a = c.args in
    c.double.ensures ∙ ap (subkey_of (length a.block.now) a.block.now) (sym c.if-not-whole.false)
