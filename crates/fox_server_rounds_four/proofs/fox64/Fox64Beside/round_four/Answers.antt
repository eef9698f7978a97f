-- `fox64::Fox64Beside::round_four` meets its contract: both words of each block are XORed with the round function's value for it, with the same round key.
-- Assumes nothing.
use Rattle.fox_server_rounds_four.proofs.Laws.Words.{lmid-words}
use Rattle.fox_server_rounds_four.proofs.fox64.Fox64Beside.round_four.Goals as goal

pub returns-clause-first : goal.returns-clause-first
returns-clause-first c = lmid-words c.args._left c.args.right c.args.first.now c.f32-p.ensures

pub returns-clause-second : goal.returns-clause-second
returns-clause-second c = lmid-words c.args._left c.args.right c.args.second.now c.f32-q.ensures

pub returns-clause-third : goal.returns-clause-third
returns-clause-third c = lmid-words c.args._left c.args.right c.args.third.now c.f32-u.ensures

pub returns-clause-fourth : goal.returns-clause-fourth
returns-clause-fourth c = lmid-words c.args._left c.args.right c.args.fourth.now c.f32-v.ensures
