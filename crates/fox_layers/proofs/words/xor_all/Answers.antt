-- `words::xor_all` meets its contract: an XOR computed from the left is the XOR of the list.
-- Assumes nothing.
use Rattle.std.proofs.Common.{rules, ◌≡◌, sym, ◌∙◌, ℕ, List, [], ◌∷◌}
use Rattle.std.specs.List.{fold}
use Rattle.fox_layers.specs.Words.{◌⊕◌, xor_all}
use Rattle.fox_layers.proofs.Laws.Xor.{xor_assoc, xor-zero, zero_xor}
use Rattle.fox_layers.proofs.words.xor_all.Goals as goal

from-left : (a : ℕ) (xs : List ℕ) → fold ◌⊕◌ a xs ≡ a ⊕ xor_all xs
unfolding xor_all
from-left a [] = sym (xor-zero a)
from-left a (x ∷ xs) = from-left (a ⊕ x) xs ∙ xor_assoc a x (xor_all xs)

pub returns : goal.returns
returns g c =
    let h : c.fold.result ≡ fold ◌⊕◌ 0 c.args.xs = search rules in
    h ∙ from-left 0 c.args.xs ∙ zero_xor (xor_all c.args.xs)
