-- The scan at a place read: what it returns and leaves in the output is what a call on the scan's stretch of the run does, since the bytes that this call is
-- given are the scan's.
-- Assumes nothing.
use mathlib.Core.Path.{◌≡◌, sym, ◌∙◌}
use mathlib.Core.Bool.{true, false, cond, ◌&&◌}
use mathlib.Core.List.{List, ◌∷◌}
use Prim.Native.Nat.{ℕ, suc, ◌+◌, ◌-◌}
use native.Mathlib.Omega.{arith}
use lib.Dec.{ltb, leb, eqb}
use lib.ListN.{length, take, drop}
use borrow.Author.Tests.{eq-eqb, ne_eqb}
use Rattle.fox_refusals.specs.Refusals.{refusal_of, short_key, for_key, for_turn, for_stretch, for_run}
use Rattle.fox_refusals.specs.Answer.{Answer, number_of}
use Rattle.fox_refusals.specs.declared.refusal.Refusal as code
use Rattle.fox_refusals.proofs.Laws.Refusals.{stretched}
use Rattle.fox_refusals.proofs.Laws.Reply.{number_not_zero, chosen}
use Rattle.fox_run.specs.Run.{run_with}
use Rattle.fox_run.specs.Promise.{RunsWith}
use Rattle.fox_text.proofs.Laws.Tests.{both}
use Rattle.fox_run_file.specs.declared.place.Place.{Place}
use Rattle.fox_run_file.specs.Outcomes.{Opened, Refused, End}
use Rattle.fox_run_file.specs.declared.scan.Scan.{Scan}
use Rattle.fox_run_file.specs.Says.{is_scan, counter_in}
use Rattle.fox_run_file.specs.Places.{at_scan, size_at, bytes_at, place_after}
use Rattle.fox_run_file.specs.Promise.{read_refusal, read_at, ReadsWith}
use Rattle.fox_run_file.proofs.Laws.Scan.{bytes-length}
use Rattle.fox_run_file.proofs.Laws.Refusals.{found_first}
use Rattle.fox_run_file_read.specs.Found.{Stands}

-- the part of the file that a scan's bytes are
pub bytes-there : {file : List ℕ} {place : Place} {s : Scan} → Stands file place s
    → take (place.at + s.head + s.size - (place.at + s.head)) (drop (place.at + s.head) file) ≡ bytes_at file place
bytes-there {place = place} {s} stands =
    let size : place.at + s.head + s.size - (place.at + s.head) ≡ s.size = omega arith in
    rw size (sym stands.bytes)

-- and their number
bytes-number : (file : List ℕ) (place : Place) → at_scan file place ≡ true → length (bytes_at file place) ≡ size_at file place
unfolding at_scan size_at bytes_at
bytes-number file place there =
    let number = suc place.scans in
    let t = drop place.at file in
    bytes-length number t (both (ltb place.scans 65535 && leb place.offset 1073741824) (is_scan number t) there).1

module _ (c r k : ℕ) (rks file : List ℕ) (place : Place) where
  pub ended : {before : List ℕ} → at_scan file place ≡ false → ReadsWith c r k rks file place before before End
  unfolding read_at
  ended none = record { answer = rw none; output = rw none }

  module _ (there : at_scan file place ≡ true) where
    -- a key that is refused, before it is prepared
    pub key-refused : (e : code.Refusal) {before : List ℕ} → number_of e ≡ refusal_of (for_key c r k)
        → ReadsWith c r k rks file place before before (Refused (number_of e))
    unfolding read_at read_refusal for_key for_turn for_run
    key-refused e {before} is =
        let isnt = number_not_zero e in
        let first = found_first (for_key c r k) (short_key false k ∷ for_stretch c (length (counter_in c r file)) place.offset (size_at file place) (length before)) is isnt in
        let other = ne_eqb (read_refusal c r k file place (length before)) 0 (λ z. isnt (first ∙ z)) in
        record { answer = rw (there, other, first); output = rw (there, other) }

    module _ {before after : List ℕ} {a : Answer}
        (call : RunsWith false c r k rks (counter_in c r file) place.offset (bytes_at file place) before after a) where
      refusal : a.refusal ≡ read_refusal c r k file place (length before)
      unfolding read_refusal
      refusal = rw (bytes-number file place there) at call.refusal

      output : after
          ≡ cond (eqb (read_refusal c r k file place (length before)) 0) (run_with c rks (counter_in c r file) place.offset (bytes_at file place)) before
      unfolding read_refusal
      output = rw (bytes-number file place there) at call.output

      -- the count is the scan's length, which is that of the output
      pub size-told : a.refusal ≡ 0 → a.count ≡ size_at file place
      size-told z =
          let zero = sym call.refusal ∙ z in
          call.count
          ∙ sym (chosen (refusal_of (for_run false c r k (length (counter_in c r file)) place.offset (length (bytes_at file place)) (length before))) (length before) 0 zero)
          ∙ (stretched false c r k _ _ _ _ zero).output
          ∙ bytes-number file place there

      pub run-refused : (a.refusal ≡ 0 → ⊥) → ReadsWith c r k rks file place before after (Refused a.refusal)
      unfolding read_at
      run-refused isnt =
          let other = ne_eqb (read_refusal c r k file place (length before)) 0 (λ z. isnt (refusal ∙ z)) in
          record { answer = rw (there, other, refusal); output = rw there output }

      pub run-opened : {n : ℕ} {next : Place} → a.refusal ≡ 0 → n ≡ size_at file place → next ≡ place_after file place
          → ReadsWith c r k rks file place before after (Opened n next)
      unfolding read_at
      run-opened z size moved =
          let zero = eq-eqb (read_refusal c r k file place (length before)) 0 (sym refusal ∙ z) in
          record { answer = rw (there, zero, size, moved); output = rw there output }
