-- `writing::put_hex` meets its contract: whenever the loop's test is reached, storing the digits of the bytes from the index on gives what storing all of them
-- into the first buffer gives.
-- Assumes nothing.
use Rattle.std.proofs.Common.{◌≡◌, sym, ◌∙◌, arith, ◌+◌, ◌*◌}
use mathlib.Core.List.{◌∷◌, []}
use Prim.Native.Nat.{suc}
use lib.Seq.{length-sets}
use Rattle.fox_text.proofs.Laws.Pairs.{length-hex-text}
use Rattle.fox_text.proofs.Laws.Stores.{hex-stored, hex-done}
use Rattle.fox_text_write.proofs.writing.put_hex.Goals as goal

pub loop-b-preserved : goal.loop-b-preserved
loop-b-preserved c =
    let a = c.args in
    let l = c.loop-b in
    let inv = l.invariant in
    let next : suc (a.at + l.b-index * 2) ≡ a.at + l.b-index * 2 + 1 = omega arith in
    record {
      place = omega (arith, c.put-end.ensures.place, inv.place);
      long = rw (c.put-end.ensures.bytes, length-sets l.out l.end (c.digit.result ∷ c.digit-in-loop-b.result ∷ [])) inv.long;
      bytes = rw (c.put-end.ensures.bytes, inv.place, next) (hex-stored l.out a.bytes.now a.at l.b-index _ _ (omega arith) c.digit.ensures c.digit-in-loop-b.ensures ∙ inv.bytes);
    }

pub returns : goal.returns
returns c =
    let a = c.args in
    let inv = c.loop-b.invariant in
    record {
      place = rw (length-hex-text a.bytes.now) (omega (arith, inv.place));
      short = omega (arith, inv.place);
      bytes = sym (hex-done c.loop-b.out a.bytes.now a.at c.loop-b.b-index (omega arith)) ∙ inv.bytes;
    }
