-- `writing::put_hex` meets its contract: whenever the loop's test is reached, storing the digits of the bytes from the index on gives what storing all of them
-- into the first buffer gives.
-- Assumes nothing.
use Rattle.std.proofs.Common.{◌≡◌, ◌+◌, ◌*◌, drop, length}
use Rattle.std.proofs.lemmas.List.Edits.{sets}
use Rattle.fox_text.specs.Hex.{hex_text}
use Rattle.fox_text_write.proofs.writing.put_hex.Given as goal

abbrev pub invariant-loop-b : goal.invariant-loop-b
invariant-loop-b l = record {
  place : l.end ≡ l.at + l.b-index * 2;
  long : length l.out ≡ length l.initial.out;
  bytes : sets l.out (l.at + l.b-index * 2) (hex_text (drop l.b-index l.bytes)) ≡ sets l.initial.out l.at (hex_text l.bytes);
}
