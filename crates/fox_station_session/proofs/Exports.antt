-- The theorems on sessions for the calls that C programs make. A session that was started answers any calls as the plain machine of its direction, key, counter
-- and position does, and each advance is answered as a run's call with the position as offset. After a refused start every call is refused. A refused call
-- changes nothing.
-- Assumes nothing.
use mathlib.Core.Path.{◌≡◌, refl, sym, ap, ap₂, ◌∙◌}
use mathlib.Core.Bool.{Bool, true, false, cond}
use mathlib.Core.List.{List, [], ◌∷◌, ◌++◌, map}
use Prim.Native.Nat.{ℕ, ◌+◌, ◌≤◌, ◌<◌}
use native.Mathlib.Omega.{arith}
use lib.Dec.{eqb}
use lib.ListN.{length, get_or}
use lib.Seq.{get_or-append-add, take_at}
use Rattle.fox_refusals.specs.Refusals.{refusal_of, First, block_size, Keyed, Stretched, LongFor, for_key, for_turn, for_run, wrong_cipher}
use Rattle.fox_refusals.specs.Reply.{Served, Same}
use Rattle.fox_refusals.specs.Handed.{answer}
use Rattle.fox_refusals.specs.Answer.{Answer}
use Rattle.fox_refusals.proofs.Laws.Refusals.{given-first, stretched, stretched-served}
use Rattle.fox_refusals.proofs.Laws.Reply.{chosen}
use Rattle.fox_run.specs.Run.{run}
use Rattle.fox_session.specs.Machine.{Machine, Call, Told, Advance, Move, lent, tells, after, tells_all, after_all}
use Rattle.fox_session.specs.Promise.{Plays, none, next}
use Rattle.fox_session.proofs.Lists.{same_key, short-key-start, as_plain, advance-runs}
use Rattle.fox_server_key.specs.Prepared.{prepared_key}
use Rattle.fox_server_session_step.specs.Step.{machine_at}
use Rattle.fox_station.specs.Exports.{RunHanded}
use Rattle.fox_station.proofs.Exports.{run-exports-agree, run-export-served, run-opened-sealed}
use Rattle.fox_station_session.specs.Sessions.{direction_word, session_in, machine_in, TrueIn, no_words, StartHanded, CallHanded, plain_at, Stands, refused_with}

-- the order of the 519 words
pub words-order : (keys : List ℕ) → length keys ≡ 510
    → session_in (keys ++ (64 ∷ 12 ∷ 16 ∷ 1 ∷ 2 ∷ 3 ∷ 4 ∷ 5 ∷ 6 ∷ []))
    ≡ record {
      key = record { cipher = 64; rounds = 12; key_len = 16; keys = keys };
      counter = record { left = 1; right = 2 };
      here = record { position = 3; block = record { left = 4; right = 5 } };
      sealing = true;
    }
unfolding session_in
words-order keys long =
    let last : List ℕ = 64 ∷ 12 ∷ 16 ∷ 1 ∷ 2 ∷ 3 ∷ 4 ∷ 5 ∷ 6 ∷ [] in
    let there : (k : ℕ) → get_or (keys ++ last) (510 + k) 0 ≡ get_or last k 0 = λ k. rw long at (get_or-append-add keys last k 0) in
    simp (there 0, there 1, there 2, there 3, there 4, there 5, there 6, there 7, there 8, take_at keys last 510 long)

-- the last word that a start stores, for sealing and for opening, computed
pub direction-words : direction_word true ∷ direction_word false ∷ [] ≡ 1 ∷ 0 ∷ []
unfolding direction_word
direction-words = refl

-- the position is word 515
pub position-word : (d : Bool) (c r : ℕ) (key counter words : List ℕ) {p : ℕ} → Stands d c r key counter words p → get_or words 515 0 ≡ p
unfolding machine_at session_in
position-word d c r key counter words s = ap (λ (m : Machine). m.position) s.machine

-- a refused call leaves words and output as they were, whoever filled the words
pub call-refused : {words words' output : List ℕ} {call : Call} {a : Answer} → CallHanded words call output a words' → (a.refusal ≡ 0 → ⊥)
    → (words' ≡ words) × (output ≡ lent call)
call-refused f isnt = f.refused isnt

-- words that are all zeros are of no session: every call is refused with 1, one after the other, and changes nothing

zeros-tell : (call : Call) → ((tells (machine_in no_words) call).refusal ≡ 1) × ((tells (machine_in no_words) call).count ≡ 0)
unfolding machine_at session_in refusal_of for_run for_turn for_key wrong_cipher
zeros-tell (Advance input out) = (refl, refl)
zeros-tell (Move to) = (refl, refl)

zeros-call : {words' output : List ℕ} {call : Call} {a : Answer} → CallHanded no_words call output a words'
    → (record { refusal = a.refusal; count = a.count; output = output } ≡ refused_with 1 call) × (words' ≡ no_words)
zeros-call {call = call} f =
    let number = f.refusal ∙ (zeros-tell call).0 in
    let count = f.count ∙ (zeros-tell call).1 in
    let (stay, same) = call-refused f (λ z. omega arith) in
    (λ i. record { refusal = number i; count = count i; output = same i }, stay)

pub zeros-refused : {words words' : List ℕ} {calls : List Call} {tolds : List Told} → words ≡ no_words → Plays machine_in TrueIn words calls tolds words'
    → (tolds ≡ map (refused_with 1) calls) × (words' ≡ no_words)
zeros-refused e none = (refl, e)
zeros-refused e (next f rest) =
    let (told, stay) = zeros-call (rw e at f) in
    let (tolds, stays) = zeros-refused stay rest in
    (ap₂ (λ (x : Told) (xs : List Told). x ∷ xs) told tolds, stays)

-- a start for sealing with a key under 16 bytes is refused with 13, with nothing else wrong with the key, and the words are all zeros
pub short-key-start-export : (c r : ℕ) (key counter : List ℕ) {words : List ℕ} {n : ℕ} → Keyed c r (length key) → length key < 16
    → StartHanded true c r key counter (answer n 0) words → (n ≡ 13) × (words ≡ no_words)
unfolding answer
short-key-start-export c r key counter keyed short start = short-key-start keyed short start.starts

module _ (d : Bool) (c r : ℕ) (key counter : List ℕ) where
  abbrev plain : ℕ → Machine
  plain = plain_at d c r key counter

  -- a start

  module _ {words : List ℕ} {n : ℕ} (start : StartHanded d c r key counter (answer n 0) words) where
    -- it is served where cipher, rounds and key length meet no refusal, the key is long enough for the direction, and the counter block is of the cipher's size,
    -- and nowhere else
    pub start-served : Keyed c r (length key) → LongFor d (length key) → length counter ≡ block_size c → n ≡ 0
    unfolding answer
    start-served keyed enough size =
        start.starts.refusal
        ∙ stretched-served d (record { keyed = keyed; long = enough; counter = size; short = omega arith; output = refl; end = omega arith })

    pub start-known : n ≡ 0 → Keyed c r (length key) × LongFor d (length key) × (length counter ≡ block_size c)
    unfolding answer
    start-known e =
        let known = stretched d c r (length key) (length counter) 0 0 0 (sym start.starts.refusal ∙ e) in
        (known.keyed, known.long, known.counter)

    -- where it is served, the session stands at position 0
    pub started : n ≡ 0 → Stands d c r key counter words 0
    unfolding answer
    started e = record { machine = start.starts.served e; true = start.starts.true }

    -- where it is refused, the number is that of the first refusal that applies, and the words are all zeros; so every call on them is refused with 1
    pub start-refused : (n ≡ 0 → ⊥) → First n (for_run d c r (length key) (length counter) 0 0 0) × (words ≡ no_words)
    unfolding answer
    start-refused isnt = (given-first n (for_run d c r (length key) (length counter) 0 0 0) (sym start.starts.refusal) isnt, start.starts.refused isnt)

    pub start-refused-calls : {words' : List ℕ} {calls : List Call} {tolds : List Told} → (n ≡ 0 → ⊥) → Plays machine_in TrueIn words calls tolds words'
        → (tolds ≡ map (refused_with 1) calls) × (words' ≡ no_words)
    start-refused-calls isnt plays = zeros-refused (start-refused isnt).1 plays

    -- where it is served, the last word is that of the direction, and every word of the prepared key is this key's, whatever the words were before
    pub start-direction : n ≡ 0 → get_or words 518 0 ≡ direction_word d
    unfolding answer
    start-direction e = start.direction e

    pub start-key : n ≡ 0 → (session_in words).key ≡ prepared_key c r key
    unfolding answer
    start-key e = start.held e

  -- any calls, one after the other, tell what the plain machine tells, and the words then stand at its last position

  pub stands-as-plain : (p : ℕ) {words words' : List ℕ} {calls : List Call} {tolds : List Told} → Stands d c r key counter words p
      → Plays machine_in TrueIn words calls tolds words' → (tolds ≡ tells_all (plain p) calls) × Stands d c r key counter words' (after_all (plain p) calls).position
  stands-as-plain p {calls = calls} s plays =
      let (told, goes, stays) = as_plain machine_in TrueIn s.true plays in (
        told ∙ ap (λ (m : Machine). tells_all m calls) s.machine,
        record { machine = goes ∙ ap (λ (m : Machine). after_all m calls) s.machine ∙ same_key (plain p) calls; true = stays },
      )

  pub session-as-plain : {words words' : List ℕ} {n : ℕ} {calls : List Call} {tolds : List Told} → StartHanded d c r key counter (answer n 0) words → n ≡ 0
      → Plays machine_in TrueIn words calls tolds words' → (tolds ≡ tells_all (plain 0) calls) × Stands d c r key counter words' (after_all (plain 0) calls).position
  session-as-plain start served plays = stands-as-plain 0 (started start served) plays

  call-stands : (p : ℕ) {words words' output : List ℕ} {call : Call} {a : Answer} → Stands d c r key counter words p → CallHanded words call output a words'
      → Stands d c r key counter words' (after (plain p) call).position
  unfolding after_all
  call-stands p s f = (stands-as-plain p s (next f none)).1

  -- an advance at a position

  module _ (p : ℕ) (input before : List ℕ) {words words' after : List ℕ} (n : ℕ) (s : Stands d c r key counter words p)
      (call : CallHanded words (Advance input before) after (answer n (length before)) words') where
    -- it meets the promise of a run's call with the position as offset, so every theorem on those holds of it
    pub advance-handed : RunHanded d c r key counter p input before after n
    unfolding answer
    advance-handed = let a = rw s.machine at (advance-runs machine_in TrueIn s.true call) in record { refusal = a.refusal; output = a.output }

    -- the same number and the same bytes as a run's call by any engine, with an output of one length
    pub advance-as-run : {before₂ after₂ : List ℕ} {m : ℕ} → length before ≡ length before₂ → RunHanded d c r key counter p input before₂ after₂ m
        → Same before before₂ after after₂ (answer n (length before)) (answer m (length before₂))
    advance-as-run l other = run-exports-agree d c r key counter p input l advance-handed other

    -- the position moves on by the count
    pub advance-stands : Stands d c r key counter words' (p + (answer n (length before)).count)
    advance-stands =
        let on = call.count ∙ ap (λ (m : Machine). (tells m (Advance input before)).count) s.machine in
        rw on (call-stands p s call)

    -- one that meets no refusal is served: the input sealed or opened at the position, which moves on by the input's length
    pub advance-served : Stretched d c r (length key) (length counter) p (length input) (length before)
        → Served (length input) (run c r key counter p input) after (answer n (length before)) × Stands d c r key counter words' (p + length input)
    advance-served h =
        let done = run-export-served d c r key counter p input h advance-handed in
        (done, rw done.count at advance-stands)

  -- so after a start that answered 0 and any calls, an advance answers as a run's call with the last position as offset
  pub session-as-run : {words words' words'' : List ℕ} {n : ℕ} {calls : List Call} {tolds : List Told} (input before : List ℕ) {after before₂ after₂ : List ℕ}
      (m : ℕ) {k : ℕ} → StartHanded d c r key counter (answer n 0) words → n ≡ 0 → Plays machine_in TrueIn words calls tolds words'
      → CallHanded words' (Advance input before) after (answer m (length before)) words'' → length before ≡ length before₂
      → RunHanded d c r key counter (after_all (plain 0) calls).position input before₂ after₂ k
      → Same before before₂ after after₂ (answer m (length before)) (answer k (length before₂))
  session-as-run {calls = calls} input before m start served plays call l other =
      advance-as-run (after_all (plain 0) calls).position input before m (session-as-plain start served plays).1 call l other

  -- a move is answered as a stretch of no bytes where it goes to is, and the session stands there unless it is refused
  module _ (p to : ℕ) {words words' output : List ℕ} (n : ℕ) (s : Stands d c r key counter words p)
      (call : CallHanded words (Move to) output (answer n 0) words') where
    pub move-told : (n ≡ refusal_of (for_run d c r (length key) (length counter) to 0 0)) × Stands d c r key counter words' (cond (eqb n 0) to p)
    unfolding answer
    move-told =
        let number = call.refusal ∙ ap (λ (m : Machine). (tells m (Move to)).refusal) s.machine in
        (number, rw number (call-stands p s call))

    -- one to a position of the run, its end included, is served
    pub move-served : Keyed c r (length key) → LongFor d (length key) → length counter ≡ block_size c → to ≤ 1073741824
        → (n ≡ 0) × Stands d c r key counter words' to
    move-served keyed enough size within =
        let zero = move-told.0
        ∙ stretched-served d (record { keyed = keyed; long = enough; counter = size; short = omega arith; output = refl; end = omega arith }) in
        (zero, rw (← chosen n to p zero) at move-told.1)

-- what a served advance wrote, advanced over at the same position by any session of that key and counter, gives the bytes again: sealed by the one and opened
-- by the other, or the other way about, for which the key has 16 bytes or more
pub advance-back : (d e : Bool) (c r : ℕ) (key counter : List ℕ) (p : ℕ) (ds before before₂ : List ℕ) {words words' words₂ words₂' mid after : List ℕ} (n : ℕ)
    → Stands d c r key counter words p → CallHanded words (Advance ds before) mid (answer 0 (length before)) words' → LongFor e (length key)
    → Stands e c r key counter words₂ p → CallHanded words₂ (Advance mid before₂) after (answer n (length before₂)) words₂' → length before₂ ≡ length mid
    → Served (length ds) ds after (answer n (length before₂))
advance-back d e c r key counter p ds before before₂ {mid = mid} n s first enough s₂ second size =
    run-opened-sealed c r key counter d e p ds (advance-handed d c r key counter p ds before 0 s first) enough
    (advance-handed e c r key counter p mid before₂ n s₂ second) size
