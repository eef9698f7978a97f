-- `key::Key::load` meets its contract: word after word has the eight bytes at its place.
-- Assumes nothing.
use Rattle.std.proofs.Common.{arith, ◌≡◌, ◌∙◌, refl}
use lib.ListN.{length-replicate, length-set}
use lib.Seq.{take_all}
use Rattle.fox_key_mixing.specs.KeyBytes.{word_bytes}
use Rattle.fox_key_mixing.proofs.Laws.KeyBytes.{word_bytes-step}
use Rattle.fox_key_mixing.proofs.key.Key.load.Goals as goal

pub loop-i-init : goal.loop-i-init
unfolding word_bytes
loop-i-init g c = (length-replicate g.row.N 0, refl)

pub loop-i-preserved : goal.loop-i-preserved
loop-i-preserved g c =
    let l = c.loop-i in
    let there = l.invariant.0 in (
      length-set l.w-items l.i _ ∙ there,
      word_bytes-step 8 l.w-items c.args.s.now l.i _ (omega arith) c.load.ensures.bytes l.invariant.1,
    )

pub returns : goal.returns
returns g c =
    let l = c.loop-i in
    let end : l.i ≡ g.row.N = omega arith in
    let all = take_all l.i l.w-items (omega (arith, l.invariant.0)) in
    rw (← all, end) (rw end at l.invariant.1)
