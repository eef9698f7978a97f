-- `fox_station_session::write_session` meets its contract: all words are stored, each where a session has it.
-- Assumes nothing.
use Rattle.std.proofs.Common.{◌≡◌, ℕ, List, ◌++◌, length, arith, rules, ◌∙◌}
use lib.ListN.{length-append, length-drop}
use lib.Seq.{take_at}
use borrow.Rule.Slice.PartMut.{post_of}
use Rattle.fox_station_session.proofs.Laws.Words.{direction-byte, last_stored, all-stored}
use Rattle.fox_station_session.proofs.write_session.Goals as goal

-- the words with the round keys in front
long : (keys words : List ℕ) → length keys ≡ 510 → length words ≡ 519 → length (keys ++ post_of 0 510 words) ≡ 519
long keys words k w = length-append keys (post_of 0 510 words) ∙ omega (arith, k, w, length-drop 510 words)

pub returns-clause-session : goal.returns-clause-session
returns-clause-session c =
    let s = c.args.s in
    let words = c.args.words.now in
    let keys = c.copy_from_slice.new.self in
    let told = c.copy_from_slice.ensures in
    let size : length keys ≡ 510 = omega (arith, told.len) in
    (rw (c.from.ensures, c.from-2.ensures) at c.write_here.ensures.session)
    ∙ all-stored (keys ++ post_of 0 510 words) s (long keys words size (omega arith)) (take_at keys _ 510 size ∙ told.after) (search rules) (search rules)
    (c.from-3.ensures ∙ direction-byte s.sealing)

pub returns-clause-direction : goal.returns-clause-direction
returns-clause-direction c =
    let s = c.args.s in
    let words = c.args.words.now in
    let keys = c.copy_from_slice.new.self in
    let size : length keys ≡ 510 = omega (arith, c.copy_from_slice.ensures.len) in
    (rw (c.from.ensures, c.from-2.ensures) at c.write_here.ensures.direction)
    ∙ last_stored (keys ++ post_of 0 510 words) s _ (long keys words size (omega arith)) ∙ c.from-3.ensures ∙ direction-byte s.sealing
