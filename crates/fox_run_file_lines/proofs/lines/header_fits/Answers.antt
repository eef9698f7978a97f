-- `lines::header_fits` meets its contract: the lines that the key settles are compared, and the counter's line begins where they end.
-- Assumes nothing.
use mathlib.Core.Path.{◌≡◌, sym, ◌∙◌}
use native.Mathlib.Omega.{arith}
use lib.ListN.{length}
use Rattle.fox_text.specs.Ascii.{codes, ascii, starts_with}
use Rattle.fox_text.proofs.Laws.Stores.{put-stored}
use Rattle.fox_run_file.specs.Format.{counter_name, key_lines}
use Rattle.fox_run_file.specs.Says.{is_header}
use Rattle.fox_run_file.proofs.Laws.Lines.{block-small, compared}
use borrow.Author.Rules.{rules}
use Rattle.fox_run_file_lines.proofs.lines.header_fits.Goals as goal

pub slice_bounds-starts_with-end : goal.slice_bounds-starts_with-end
slice_bounds-starts_with-end c = (put-stored c.put_key_lines-n.ensures (search rules)).counts

pub block_line-requires : goal.block_line-requires
block_line-requires c = block-small _

pub returns-then-starts_with : goal.returns-then-starts_with
unfolding is_header codes ascii counter_name
returns-then-starts_with c =
    let a = c.args in
    let starts : c.starts_with.result ≡ starts_with (key_lines a.cipher a.rounds) a.file.now =
    compared _ c.put_key_lines-n.ensures (search rules) c.starts_with.ensures in
    let long : c.put_key_lines-n.result ≡ length (key_lines a.cipher a.rounds) = omega (arith, c.put_key_lines-n.ensures.place) in
    rw (sym starts ∙ c.if-starts_with.true, ← long, ← c.rest.ensures) c.block_line.ensures.right

pub returns-else-starts_with : goal.returns-else-starts_with
unfolding is_header
returns-else-starts_with c =
    let starts = compared _ c.put_key_lines-n.ensures (search rules) c.starts_with.ensures in
    rw (sym starts ∙ c.if-starts_with.false) c.if-starts_with.false
