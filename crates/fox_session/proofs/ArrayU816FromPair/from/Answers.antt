-- `<[u8; 16]>::from` of a pair meets its contract: each word is written over eight bytes, the second over the last eight, so no earlier byte stays.
-- Assumes nothing.
use Rattle.std.proofs.Common.{◌≡◌, ap, ap₂, ◌∙◌, ℕ, List, [], ◌++◌, ◌-◌, length, take, drop, arith}
use borrow.Rule.Slice.PartMut.{mid_of, put_mid}
use Rattle.fox_layers.specs.Words.{split}
use Rattle.fox_bytes.proofs.Laws.WordsInBytes.{put-end, end-spent}
use Rattle.fox_session.specs.InUse.{bytes_in}
use Rattle.fox_session.proofs.ArrayU816FromPair.from.Goals as goal

pub returns : goal.returns
unfolding split bytes_in
returns c =
    let l = c.store.new.out in
    let p = c.store-2.new.out in
    let whole : length l ≡ 16 = omega arith in
    let half : length l - 8 ≡ 8 = omega arith in
    let both : put_mid 8 8 l p ≡ take 8 l ++ p = rw half at (put-end 8 l p) in
    let spent : drop 8 (mid_of 8 8 l) ≡ [] = rw half at (end-spent 8 8 l whole) in
    both
    ∙ ap₂ (λ (xs ys : List ℕ). xs ++ ys)
    (ap (λ (xs : List ℕ). take 8 xs) c.store.ensures)
    (c.store-2.ensures ∙ ap (λ (xs : List ℕ). split 8 c.args.w.right ++ xs) spent)
