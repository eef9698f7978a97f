-- `mixing::mixed_bytes` meets its contract: a turn of the loop stores one mixed byte more, and none is left after the last.
-- Assumes nothing.
use Rattle.std.proofs.Common.{arith, ◌≡◌, ◌<◌, [], refl, ◌∙◌, length, take}
use mathlib.Core.List.{append-nil}
use lib.ListN.{drop, length-set, drop_of_length-le}
use Rattle.fox_key_mixing.specs.Padding.{pad, padded, mixed}
use Rattle.fox_key_mixing.proofs.Laws.Mixing.{padded-at, length-padded, mixed-step}
use Rattle.fox_key_mixing.proofs.mixing.mixed_bytes.Goals as goal

pub loop-i-init : goal.loop-i-init
loop-i-init c = (omega arith, refl, refl)

pub loop-i-preserved : goal.loop-i-preserved
unfolding pad
loop-i-preserved c =
    let l = c.loop-i in
    let key = c.args.key.now in
    let ek = c.args.ek in
    let p = padded ek key in
    let n : length p ≡ ek = length-padded ek key c.requires.0 c.requires.1 in
    let here : l.i < ek = omega arith in
    let byte = padded-at ek key c.requires.0 l.i here in (
      omega arith,
      length-set l.out l.i c.mixed_byte-m.result ∙ l.invariant.1,
      mixed-step p l.out (mixed 0x6A 0x76 p) l.i l.x l.y c.mixed_byte-m.result (omega arith) (omega arith)
          (rw (c.mixed_byte-m.ensures, c.padded_byte.ensures, byte)) l.invariant.2,
    )

pub returns : goal.returns
unfolding mixed
returns c =
    let l = c.loop-i in
    let key = c.args.key.now in
    let ek = c.args.ek in
    let p = padded ek key in
    let n : length p ≡ ek = length-padded ek key c.requires.0 c.requires.1 in
    let end : l.i ≡ ek = omega arith in
    let none : drop l.i p ≡ [] = drop_of_length-le p {i = l.i} (omega arith) in
    rw (none, append-nil (take l.i l.out), end) at l.invariant.2
