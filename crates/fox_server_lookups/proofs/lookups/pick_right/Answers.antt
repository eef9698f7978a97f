-- `lookups::pick_right` meets its contract: the bytes that it looks up are those of the word's right half.
-- Assumes nothing.
use Rattle.std.proofs.Common.{sym, ap, ◌∙◌, [], ◌∷◌}
use Rattle.fox_layers.specs.Lists.{numbered}
use Rattle.fox_layers.specs.Words.{xor_over}
use Rattle.fox_layers.specs.Tables.{picked}
use Rattle.fox_server_lookups.proofs.Laws.Lookups.{split-right}
use Rattle.fox_server_lookups.specs.Entry.{entry}
use Rattle.fox_server_lookups.proofs.lookups.pick_right.Goals as goal

pub returns : goal.returns
unfolding numbered picked
returns c =
    c.four.ensures
    ∙ ap (xor_over (entry c.args.t.now) (0 ∷ 1 ∷ 2 ∷ 3 ∷ []))
    ((λ i. c.last.ensures i ∷ c.under.ensures i ∷ c.last-2.ensures i ∷ c.last-3.ensures i ∷ []) ∙ sym (split-right c.args.w))
