-- `fields::pairs_in` meets its contract: the bytes are written exactly where the line's value is pairs.
-- Assumes nothing.
use Rattle.std.proofs.Common.{rules}
use Rattle.fox_text.proofs.Laws.Pairs.{joinable}
use Rattle.fox_text.proofs.Laws.Fields.{right-pairs, wrong-pairs}
use Rattle.fox_text_read.proofs.fields.pairs_in.Goals as goal

pub join_pairs-requires : goal.join_pairs-requires
join_pairs-requires c =
    joinable c.starts_with.result c.is_pairs.result _ _ _ c.if-starts_with-is_pairs.true c.is_pairs.ensures (search rules)

pub returns-then-starts_with-is_pairs : goal.returns-then-starts_with-is_pairs
returns-then-starts_with-is_pairs c =
    right-pairs _ _ _ _ (search rules) c.first_line-line.ensures c.rest-ds.ensures c.starts_with.ensures
    c.is_pairs.ensures c.if-starts_with-is_pairs.true c.join_pairs.ensures

pub returns : goal.returns
returns c =
    wrong-pairs _ _ _ _ (search rules) c.first_line-line.ensures c.rest-ds.ensures c.starts_with.ensures
    c.is_pairs.ensures c.if-starts_with-is_pairs.false
