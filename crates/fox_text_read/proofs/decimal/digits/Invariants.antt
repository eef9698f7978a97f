-- `decimal::digits` meets its contract: whenever the loop's test is reached, all bytes are digits exactly where those from the index on are, and these appended
-- to v have the value of all.
-- Assumes nothing.
use Rattle.std.proofs.Common.{◌≡◌, ◌≤◌, drop}
use Rattle.fox_text.specs.Decimal.{all_digits, onward, decimal_of}
use Rattle.fox_text_read.proofs.decimal.digits.Given as goal

abbrev pub invariant-loop-d : goal.invariant-loop-d
invariant-loop-d l = record {
  small : l.v ≤ l.most;
  right : all_digits (drop l.d-index l.ds) ≡ all_digits l.ds;
  value : onward l.v (drop l.d-index l.ds) ≡ decimal_of l.ds;
}
