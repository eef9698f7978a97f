-- `write::put_tag` meets its contract: the tag of the text before the line is made, since no refusal applies, and is put into it.
-- Assumes nothing.
use mathlib.Core.Path.{◌≡◌}
use Prim.Native.Nat.{◌≤◌}
use native.Mathlib.Omega.{arith}
use lib.ListN.{length, take}
use lib.Seq.{length-take-le}
use Rattle.fox_server_key.specs.Prepared.{round_keys_in}
use Rattle.fox_tag.proofs.Tags.{tag-made}
use Rattle.fox_text.specs.Ascii.{codes, ascii}
use Rattle.fox_run_file.specs.Format.{close_name}
use Rattle.fox_run_file.specs.Sizes.{block_line_size}
use Rattle.fox_run_file_write.proofs.write.put_tag.Goals as goal

pub put_pairs_line-requires : goal.put_pairs_line-requires
unfolding close_name block_line_size ascii codes
put_pairs_line-requires c = omega (arith, c.requires.close_room.fits, c.requires.tag_len)

pub returns : goal.returns
unfolding close_name ascii codes
returns c =
    let a = c.args in
    let room = c.requires.close_room in
    let text = take a.at a.out.now in
    let long : length text ≡ a.at = length-take-le a.at a.out.now (omega (arith, room.fits)) in
    let short : length text ≤ 1073741824 = omega (arith, room.text) in
    let tag = (tag-made a.p.now.cipher a.p.now.rounds _ (round_keys_in a.p.now) text room.keyed short c.requires.tag_len c.make_by.ensures).output in
    rw (← tag) c.put_pairs_line.ensures
