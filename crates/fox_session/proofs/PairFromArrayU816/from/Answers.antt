-- `Pair::from` of 16 bytes meets its contract: the bytes of the two words are the first eight and the other eight.
-- Assumes nothing.
use Rattle.std.proofs.Common.{ap₂, sym, ◌∙◌, ℕ, List, ◌++◌, arith}
use lib.Seq.{take-add, take_all}
use Rattle.fox_session.specs.InUse.{bytes_in}
use Rattle.fox_session.proofs.PairFromArrayU816.from.Goals as goal

pub returns : goal.returns
unfolding bytes_in
returns c =
    let bytes = c.args.bytes in
    ap₂ (λ (xs ys : List ℕ). xs ++ ys) c.load.ensures.bytes c.load-2.ensures.bytes ∙ sym (take-add 8 8 bytes) ∙ take_all 16 bytes (omega arith)
