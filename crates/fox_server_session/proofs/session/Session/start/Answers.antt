-- `Session::start` meets its contract: the refusals are those of a stretch of no bytes at the run's start; past them the counter has the block's length, and
-- the block in use is the first.
-- Assumes nothing.
use Rattle.std.proofs.Common.{◌≡◌, Err, refl, sym, rules, arith}
use Rattle.fox_refusals.proofs.Laws.Refusals.{stretched}
use Rattle.fox_server_session.proofs.Laws.Sessions.{refused_begins, served-start}
use Rattle.fox_server_session.proofs.session.Session.start.Goals as goal

pub returns-in_err-for_run : goal.returns-in_err-for_run
returns-in_err-for_run c =
    let is : c.from_residual.result ≡ Err c.in_err-for_run.field-0.0 = search rules in
    refused_begins _ _ _ _ _ _ c.args.p is c.in_err-for_run.ensures

pub read_block-first-requires : goal.read_block-first-requires
read_block-first-requires c = (stretched _ _ _ _ _ _ _ _ (sym c.in_ok-for_run.ensures)).counter

pub invariant_of-run : goal.invariant_of-run
invariant_of-run c =
    let known = stretched _ _ _ _ _ _ _ _ (sym c.in_ok-for_run.ensures) in
    record { rounds_in = (omega (arith, known.keyed.low), known.keyed.high) }

pub returns : goal.returns
returns c =
    let a = c.args in
    record {
      starts = served-start a.sealing a.p c.read_block-first.result c.block_at-block.result a.counter.now (sym c.in_ok-for_run.ensures) (refl, refl)
          c.read_block-first.ensures c.block_at-block.ensures;
      key = λ z. refl;
    }
