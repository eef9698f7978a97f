-- `lines::counter_of` meets its contract: the counter's line begins where the lines that the key settles end.
-- Assumes nothing.
use mathlib.Core.Path.{◌≡◌}
use native.Mathlib.Omega.{arith}
use lib.ListN.{length}
use Rattle.fox_text.specs.Ascii.{codes, ascii}
use Rattle.fox_text.proofs.Laws.Fields.{pairs-taken}
use Rattle.fox_run_file.specs.Format.{counter_name, key_lines}
use Rattle.fox_run_file.specs.Says.{block_in, counter_in}
use Rattle.fox_run_file_lines.proofs.lines.counter_of.Goals as goal

pub returns : goal.returns
unfolding codes ascii counter_name block_in counter_in
returns c =
    let a = c.args in
    let long : c.put_key_lines-n.result ≡ length (key_lines a.cipher a.rounds) = omega (arith, c.put_key_lines-n.ensures.place) in
    rw (← c.block_size.ensures, ← long, ← c.rest.ensures, c.unwrap_or.ensures) (pairs-taken c.pairs_in.ensures)
