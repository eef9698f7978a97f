-- `answer::put_served` meets its contract: five lines, one after the other.
-- Assumes nothing.
use native.Mathlib.Omega.{arith}
use Rattle.fox_text.specs.Ascii.{codes, ascii}
use Rattle.fox_text.proofs.Laws.Stores.{then, at-most}
use Rattle.fox_text.specs.Names.{cipher_name, rounds_name}
use Rattle.fox_sheet.specs.Sheet.{block_name}
use Rattle.fox_sheet.specs.Answer.{refusal_name, keybits_name, served_text}
use Rattle.fox_sheet_answer.proofs.answer.put_served.Goals as goal

pub returns : goal.returns
unfolding codes ascii refusal_name cipher_name rounds_name keybits_name block_name served_text
returns c =
    let heads = then (then c.put_decimal_line-a.ensures c.put_decimal_line-b.ensures) c.put_decimal_line-c.ensures in
    at-most (then (then heads c.put_decimal_line-d.ensures) c.put_pairs_line.ensures) (omega (arith, c.requires.block))
