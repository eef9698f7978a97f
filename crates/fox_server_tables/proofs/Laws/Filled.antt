-- An array that is filled from its start on: up to there it equals the list that it is to become.
-- Assumes nothing.
use Rattle.std.proofs.Common.{◌≡◌, sym, ap, ap₂, ◌∙◌, List, ◌++◌, append_assoc, ℕ, ◌+◌, ◌*◌, ◌≤◌, ◌<◌, add-one, arith, length, take, drop, get_or, set, length-append, length-drop}
use Rattle.std.proofs.lemmas.Grind.{same_number_lists}
use borrow.Rule.Slice.PartMut.{put_mid}
use lib.Seq.{take-suc, take-suc-set, take_all, take-add, take_at, length-take-le, get_or-take, get_or-drop}
use Rattle.fox_layers.specs.Tables.{table, tbsm_entry, TBSM}
use Rattle.fox_server_tables.specs.Filled.{FilledTo}
use Rattle.fox_layers.proofs.Laws.Lists.{length-numbered}
use Rattle.fox_layers.proofs.Laws.Bytewise.{table_at}
use Rattle.fox_layers.proofs.Laws.Tables.{TBSM-at, length-TBSM}

-- one more entry
pub entered : (whole t : List ℕ) (i v : ℕ) → i < length whole → length t ≡ length whole → v ≡ get_or whole i 0 → take i t ≡ take i whole
    → take (i + 1) (set t i v) ≡ take (i + 1) whole
entered whole t i v h l e same = rw (add-one, take-suc-set t i v (omega arith), take-suc whole i 0 h, same, e)

-- all entries
pub filled : (whole t : List ℕ) (i : ℕ) → length whole ≤ i → length t ≡ length whole → take i t ≡ take i whole → t ≡ whole
filled whole t i h l same = sym (take_all i t (omega arith)) ∙ same ∙ take_all i whole h

-- TBSM table number j of a matrix stands in the list of all tables
pub table-of : (rows : List (List ℕ)) (j : ℕ) (a : List ℕ) → j < length rows → a ≡ table (tbsm_entry rows j) → a ≡ take 256 (drop (j * 256) (TBSM rows))
unfolding table
table-of rows j a h is =
    let all = TBSM rows in
    let k = j * 256 in
    let room : 256 ≤ length (drop k all) = rw length-drop (omega (arith, length-TBSM rows)) in
    let long = length-numbered (tbsm_entry rows j) 256 0 in
    is
    ∙ same_number_lists (table (tbsm_entry rows j)) (take 256 (drop k all)) (long ∙ sym (length-take-le 256 (drop k all) room))
    (λ x l.
    let below : x < 256 = omega (arith, long) in
    table_at (tbsm_entry rows j) x below
    ∙ sym (get_or-take 256 (drop k all) x 0 below ∙ get_or-drop k all x 0 ∙ TBSM-at rows j x h below))

-- one more table
pub filled_to-next : {A : Type 0} (whole t p : List A) (j n : ℕ) → n ≡ 256 → FilledTo whole j t → p ≡ take 256 (drop (j * 256) whole) → j * 256 + 256 ≤ length t
    → FilledTo whole (j + 1) (put_mid (j * 256) n t p)
filled_to-next {A} whole t p j n e begun is room =
    let k = j * 256 in
    let rest = drop n (drop k t) in
    let long : length p ≡ 256 =
    ap length is ∙ length-take-le 256 (drop k whole) (rw length-drop (omega (arith, begun.long))) in
    let front : length (take k t ++ p) ≡ k + 256 = rw (length-append, long, length-take-le k t (omega arith)) in
    let parts : put_mid k n t p ≡ (take k t ++ p) ++ rest = sym (append_assoc (take k t) p rest) in
    let place : k + 256 ≡ (j + 1) * 256 = omega arith in
    record {
      long =
          ap length parts ∙ length-append (take k t ++ p) rest
          ∙ omega (arith, front, begun.long, length-drop n (drop k t), length-drop k t);
      same =
          ap (take ((j + 1) * 256)) parts
          ∙ take_at (take k t ++ p) rest ((j + 1) * 256) (front ∙ place)
          ∙ ap₂ (λ (xs ys : List A). xs ++ ys) begun.same is
          ∙ sym (take-add k 256 whole)
          ∙ ap (λ (m : ℕ). take m whole) place;
    }

-- all tables
pub filled_to-all : (rows : List (List ℕ)) (t : List ℕ) → FilledTo (TBSM rows) (length rows) t → t ≡ TBSM rows
filled_to-all rows t begun = filled (TBSM rows) t (length rows * 256) (omega (arith, length-TBSM rows)) begun.long begun.same
