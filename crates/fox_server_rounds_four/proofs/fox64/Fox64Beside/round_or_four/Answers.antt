-- `fox64::Fox64Beside::round_or_four` meets its contract: both words of each block are XORed with the round function's value for it, with the same round key,
-- and the left one goes through "or".
-- Assumes nothing.
use Rattle.fox_server_rounds_four.proofs.Laws.Words.{lmor-words}
use Rattle.fox_server_rounds_four.proofs.fox64.Fox64Beside.round_or_four.Goals as goal

pub returns-clause-first : goal.returns-clause-first
returns-clause-first c = lmor-words c.args._left c.args.right c.args.first.now c.f32-p.ensures c.or.ensures

pub returns-clause-second : goal.returns-clause-second
returns-clause-second c = lmor-words c.args._left c.args.right c.args.second.now c.f32-q.ensures c.or-2.ensures

pub returns-clause-third : goal.returns-clause-third
returns-clause-third c = lmor-words c.args._left c.args.right c.args.third.now c.f32-u.ensures c.or-3.ensures

pub returns-clause-fourth : goal.returns-clause-fourth
returns-clause-fourth c = lmor-words c.args._left c.args.right c.args.fourth.now c.f32-v.ensures c.or-4.ensures
