-- `lookups::pick8` meets its contract: the bytes that it looks up are the word's, and the XOR is the definition's, bracketed from the left.
-- Assumes nothing.
use Rattle.std.proofs.Common.{refl, sym, ap, ◌∙◌, [], ◌∷◌}
use Rattle.fox_layers.specs.Lists.{numbered}
use Rattle.fox_layers.specs.Words.{xor_over}
use Rattle.fox_layers.specs.Tables.{picked}
use Rattle.fox_layers.proofs.Laws.Words.{split-8}
use Rattle.fox_layers.proofs.Laws.Xor.{done, ◌▸◌, running-terms}
use Rattle.fox_server_lookups.proofs.Laws.Lookups.{first}
use Rattle.fox_server_lookups.specs.Entry.{entry}
use Rattle.fox_server_lookups.proofs.lookups.pick8.Goals as goal

pub returns : goal.returns
unfolding numbered picked
returns c =
    running-terms {f = entry c.args.t.now} (first c.args.t.now c.last.result ▸ refl ▸ refl ▸ refl ▸ refl ▸ refl ▸ refl ▸ refl ▸ done)
    ∙ ap (xor_over (entry c.args.t.now) (0 ∷ 1 ∷ 2 ∷ 3 ∷ 4 ∷ 5 ∷ 6 ∷ 7 ∷ []))
    ((λ i.
    c.last.ensures i ∷ c.under.ensures i ∷ c.under-2.ensures i ∷ c.under-3.ensures i
    ∷ c.under-4.ensures i ∷ c.last-2.ensures i ∷ c.last-3.ensures i ∷ c.last-4.ensures i ∷ [])
    ∙ sym (split-8 c.args.w))
