-- The 519 words of a session: stores of neighbouring words change these words of the session that they hold, and no others.
-- Assumes nothing.
use mathlib.Core.Path.{◌≡◌, refl, ap, ◌∙◌}
use mathlib.Core.Bool.{Bool, true, false, not}
use mathlib.Core.List.{List, [], ◌∷◌}
use Prim.Native.Nat.{ℕ, zero, suc, ◌+◌, ◌^◌, ◌<◌, ◌≤◌}
use native.Mathlib.Nat.{not-suc-le-zero, le_of_suc-le-suc, add-zero, mod-eq_of_lt}
use native.Mathlib.Omega.{arith}
use borrow.Author.Tests.{ltb-true}
use lib.Dec.{ltb, eqb}
use Rattle.std.specs.Int.{from_bool}
use lib.ListN.{length, get_or, take, set, length-set}
use lib.Seq.{sets, get_or-set_other, get_or-set_same, take-set-le}
use Rattle.fox_session.specs.declared.Here.{Here}
use Rattle.fox_server_session.specs.declared.session.Session.{Session}
use Rattle.fox_server_session.specs.Session.{session_at}
use Rattle.fox_station_session.specs.Sessions.{direction_word, session_in}

-- a word, and words, before the ones that are stored
before : (vs l : List ℕ) (i j : ℕ) → j < i → get_or (sets l i vs) j 0 ≡ get_or l j 0
before [] l i j h = refl
before (v ∷ vs) l i j h = before vs (set l i v) (suc i) j (omega arith) ∙ get_or-set_other l i j v 0 (λ e. omega arith)

front : (vs l : List ℕ) (i n : ℕ) → n ≤ i → take n (sets l i vs) ≡ take n l
front [] l i n h = refl
front (v ∷ vs) l i n h = front vs (set l i v) (suc i) n (omega arith) ∙ take-set-le n l i v h

-- a word after the ones that are stored
beyond : (vs l : List ℕ) (i j : ℕ) → i + length vs ≤ j → get_or (sets l i vs) j 0 ≡ get_or l j 0
beyond [] l i j h = refl
beyond (v ∷ vs) l i j h = beyond vs (set l i v) (suc i) j (omega arith) ∙ get_or-set_other l i j v 0 (λ e. omega arith)

length-stored : (vs l : List ℕ) (i : ℕ) → length (sets l i vs) ≡ length l
length-stored [] l i = refl
length-stored (v ∷ vs) l i = length-stored vs (set l i v) (suc i) ∙ length-set l i v

-- a word that is stored
stored : (vs l : List ℕ) (i k : ℕ) → i + k < length l → k < length vs → get_or (sets l i vs) (i + k) 0 ≡ get_or vs k 0
stored [] l i k h within = absurd (not-suc-le-zero within)
stored (v ∷ vs) l i zero h within =
    ap (λ (n : ℕ). get_or (sets (set l i v) (suc i) vs) n 0) (add-zero i)
    ∙ before vs (set l i v) (suc i) i (omega arith)
    ∙ get_or-set_same l i v 0 (omega arith)
stored (v ∷ vs) l i (suc k) h within =
    let on : i + suc k ≡ suc i + k = omega arith in
    ap (λ (n : ℕ). get_or (sets (set l i v) (suc i) vs) n 0) on
    ∙ stored vs (set l i v) (suc i) k (omega (arith, length-set l i v)) (le_of_suc-le-suc within)

-- the words with where a session stands
abbrev here_in : Here → List ℕ
here_in here = here.position ∷ here.block.left ∷ here.block.right ∷ []

-- where a session stands is stored before the last word
pub last-kept : (words : List ℕ) (here : Here) → get_or (sets words 515 (here_in here)) 518 0 ≡ get_or words 518 0
last-kept words here = beyond (here_in here) words 515 518 (omega arith)

pub here-stored : (words : List ℕ) (here : Here) → length words ≡ 519 → session_in (sets words 515 (here_in here)) ≡ session_at (session_in words) here
unfolding session_in
here-stored words here long =
    let now = sets words 515 (here_in here) in
    let past : (j : ℕ) → ltb j 515 ≡ true → get_or now j 0 ≡ get_or words j 0 = λ j h. before (here_in here) words 515 j (ltb-true j 515 h) in
    let there : (k : ℕ) → ltb k 3 ≡ true → get_or now (515 + k) 0 ≡ get_or (here_in here) k 0 =
    λ k h. stored (here_in here) words 515 k (omega (arith, ltb-true k 3 h)) (ltb-true k 3 h) in
    simp (past, there 0, there 1, there 2, front (here_in here) words 515 510 (omega arith), last-kept words here)

-- the words with what stays the same in a session, but for the round keys
abbrev basis_in : Session → List ℕ
basis_in s = s.key.cipher ∷ s.key.rounds ∷ s.key.key_len ∷ s.counter.left ∷ s.counter.right ∷ []

-- the last word says the direction
direction-told : (b : Bool) → not (eqb (direction_word b) 0) ≡ b
unfolding direction_word
direction-told true = refl
direction-told false = refl

-- it is the direction as a number
pub direction-byte : (b : Bool) → from_bool b ≡ direction_word b
unfolding direction_word
direction-byte true = refl
direction-byte false = refl

-- the last word after all others
pub last_stored : (words : List ℕ) (s : Session) (d : ℕ) → length words ≡ 519 → get_or (set (sets words 510 (basis_in s)) 518 d) 518 0 ≡ d
last_stored words s d long = get_or-set_same (sets words 510 (basis_in s)) 518 d 0 (omega (arith, length-stored (basis_in s) words 510))

pub all-stored : (words : List ℕ) (s : Session) → length words ≡ 519 → take 510 words ≡ s.key.keys → s.key.cipher < 2 ^ 32 → s.key.rounds < 2 ^ 32
    → {d : ℕ} → d ≡ direction_word s.sealing → session_at (session_in (set (sets words 510 (basis_in s)) 518 d)) s.here ≡ s
unfolding session_in
all-stored words s long keys hc hr {d} e =
    let now = sets words 510 (basis_in s) in
    let there : (k : ℕ) → ltb k 5 ≡ true → get_or now (510 + k) 0 ≡ get_or (basis_in s) k 0 =
    λ k h. stored (basis_in s) words 510 k (omega (arith, ltb-true k 5 h)) (ltb-true k 5 h) in
    let past : (j : ℕ) → ltb j 518 ≡ true → get_or (set now 518 d) j 0 ≡ get_or now j 0 =
    λ j h. get_or-set_other now 518 j d 0 (λ q. omega (arith, ltb-true j 518 h)) in
    let last : get_or (set now 518 d) 518 0 ≡ direction_word s.sealing = last_stored words s d long ∙ e in
    simp (
      past,
      there 0,
      there 1,
      there 2,
      there 3,
      there 4,
      last,
      direction-told,
      take-set-le 510 now 518 d (omega arith),
      front (basis_in s) words 510 510 (omega arith),
      keys,
      mod-eq_of_lt hc,
      mod-eq_of_lt hr,
    )
