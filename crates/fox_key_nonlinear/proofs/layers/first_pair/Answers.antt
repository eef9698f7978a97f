-- `layers::first_pair` meets its contract: two words side by side are the halves of one.
-- Assumes nothing.
use Rattle.std.proofs.Common.{rules, arith, ◌≡◌, ◌<◌, ◌^◌, ◌/◌, ◌%◌, ℕ, List, ap, ◌∙◌, get_or}
use Rattle.fox_key_nonlinear.proofs.layers.first_pair.Goals as goal

pub returns : goal.returns
returns c =
    let two = c.first_two.result in
    let fits : get_or two 1 0 < 2 ^ 32 = search rules in
    let top : c.pair.result / 2 ^ 32 ≡ get_or two 0 0 = omega arith in
    let low : c.pair.result % 2 ^ 32 ≡ get_or two 1 0 = omega arith in (
      top ∙ ap (λ (l : List ℕ). get_or l 0 0) c.first_two.ensures,
      low ∙ ap (λ (l : List ℕ). get_or l 1 0) c.first_two.ensures,
    )
