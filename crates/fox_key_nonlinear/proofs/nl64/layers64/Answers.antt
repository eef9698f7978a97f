-- `nl64::layers64` meets its contract: the key's words are those that the definition reads, and each goes through the layers as the definition has it.
-- Assumes nothing.
use Rattle.std.proofs.Common.{rules, arith, [], ◌∷◌, sym, ap, ◌∙◌, get_or}
use Rattle.fox_layers.specs.Words.{xor_each}
use Rattle.fox_layers.specs.Diffusion.{mu4}
use Rattle.fox_key_nonlinear.specs.Nonlinear.{mix64, layers}
use Rattle.fox_key_nonlinear.proofs.Laws.KeyWords.{halves-two}
use Rattle.fox_key_nonlinear.proofs.Laws.Layers.{pad-4-4, layers-made}
use Rattle.fox_key_nonlinear.proofs.nl64.layers64.Goals as goal

pub returns : goal.returns
unfolding mix64 xor_each
returns c =
    let x = c.first_two.result in
    let y = c.first_two-2.result in
    let xs = get_or x 0 0 ∷ get_or x 1 0 ∷ get_or y 0 0 ∷ get_or y 1 0 ∷ [] in
    rw (c.second_two.ensures, c.second_two-2.ensures)
    (layers-made 4 4 mu4 mix64 c.args.flip _ {xs = xs} (rw (c.first_two.ensures, c.first_two-2.ensures)) pad-4-4
    ∙ ap (layers 4 4 mu4 mix64 c.args.flip) (sym (halves-two c.args.d.words (omega arith) (search rules) (search rules))))
