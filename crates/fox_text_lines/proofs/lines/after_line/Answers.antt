-- `lines::after_line` meets its contract: the next line begins after the line feed.
-- Assumes nothing.
use mathlib.Core.Path.{◌≡◌, ◌∙◌}
use Prim.Native.Nat.{suc, ◌+◌}
use native.Mathlib.Omega.{arith}
use lib.ListN.{length-drop}
use Rattle.fox_text.specs.Lines.{line_end, after_line}
use Rattle.fox_text_lines.proofs.lines.after_line.Goals as goal

pub returns : goal.returns
unfolding after_line
returns c =
    let t = c.args.t.now in
    let next : c.line_end-end.result + 1 ≡ suc (line_end t) = omega (arith, c.line_end-end.ensures.is) in
    record {
      is = c.rest.ensures ∙ rw next;
      shorter = rw (c.rest.ensures, length-drop) (omega arith);
    }
