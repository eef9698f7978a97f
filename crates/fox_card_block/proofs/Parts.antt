-- A block in parts, on calls: a call on part of the rounds, and a call that goes on from its output and its register, answer as one call on both parts; where
-- the first begins with the first round and the second ends with the last, as a call on the whole block, for every round to stop at, in sealing and in opening;
-- and what is in hand in between.
-- Assumes nothing.
use mathlib.Core.Path.{◌≡◌, refl, sym, ap, ap₂, ◌∙◌, subst}
use mathlib.Core.Bool.{Bool}
use mathlib.Core.List.{List}
use Prim.Native.Nat.{ℕ, ◌<◌, ◌≤◌}
use native.Mathlib.Omega.{arith}
use lib.ListN.{length}
use Rattle.fox_layers.specs.Lists.{numbered}
use Rattle.fox_rounds.specs.Skeleton.{through, round, between, place}
use Rattle.fox_key_schedule.specs.Schedule.{round_key, step_block}
use Rattle.fox_key_schedule.specs.Step.{stands, number}
use Rattle.fox_refusals.specs.Refusals.{Refusal, refusal_of, for_block}
use Rattle.fox_refusals.specs.Reply.{Reply}
use Rattle.fox_refusals.proofs.Laws.Refusals.{blocked}
use Rattle.fox_refusals.proofs.Laws.Reply.{served, refused, refused-reply, reply-as, chosen, passed_over}
use Rattle.fox_block.specs.Block.{state, bytes, turn_with, turn_block, BlockOf}
use Rattle.fox_block.specs.Promise.{Turns}
use Rattle.fox_block.proofs.Laws.Block.{length-bytes}
use Rattle.fox_card_block.specs.Part.{PartAnswer, least, parted, TurnsPart, for_two, TurnsInTwo}
use Rattle.fox_card_block.specs.declared.rounds.Hold.{Hold}
use Rattle.fox_card_block.proofs.Laws.Part.{least-most, least_above, parted-size, parted-joined, parted-stopped, parted-all}

-- a call on all rounds is a call on the block
pub whole_part : (d : Bool) (c r : ℕ) (key : List ℕ) (reg : ℕ) (block : List ℕ) {before after : List ℕ} {p : PartAnswer}
    → TurnsPart d c r key 0 r reg block before after p
    → Turns d c r key block before after p.answer
unfolding turn_with
whole_part d c r key reg block call =
    reply-as
    (λ z.
    let known = (blocked _ _ _ _ _ _ z).keyed in
    ap bytes (parted-all d c r key reg block (omega (arith, known.low)) (omega (arith, known.high)))) call.reply

module _ (d : Bool) (c r : ℕ) (key block : List ℕ) (b : BlockOf c block) (i j reg : ℕ) {before mid : List ℕ} {p : PartAnswer}
    (first : TurnsPart d c r key i j reg block before mid p) (went : p.answer.refusal ≡ 0) where
  zero : refusal_of (for_block d c r (length key) (length block) (length before)) ≡ 0
  zero = sym first.reply.refusal ∙ went

  abbrev held : Hold
  held = parted d c r key i j reg block

  state-kept : mid ≡ bytes held.state
  state-kept = (served first.reply zero).output

  register-kept : p.reg ≡ held.reg
  register-kept = first.handed ∙ sym (chosen _ _ _ zero)

  same_length : length mid ≡ length block
  same_length = ap length state-kept ∙ length-bytes held.state ∙ parted-size d c r key i j reg block ∙ sym b.size

  few : r < 256
  few = omega (arith, (blocked _ _ _ _ _ _ zero).keyed.high)

  -- parts that follow each other
  pub parts_join : (k : ℕ) {before₂ after : List ℕ} {q : PartAnswer} → i ≤ j → least j r ≤ least k r → TurnsPart d c r key j k p.reg mid before₂ after q
      → TurnsPart d c r key i k reg block before₂ after q
  parts_join k {before₂} {after} {q} le most second =
      let same : parted d c r key j k p.reg mid ≡ parted d c r key i k reg block =
      ap₂ (parted d c r key j k) register-kept state-kept ∙ parted-joined d c r key i j k reg block b le most few in
      rw (← same_length, ← same) second

-- a block stopped after any number of rounds, and gone on with
pub two-parts : (d : Bool) (c r : ℕ) (key block : List ℕ) → BlockOf c block → (n reg : ℕ) {before mid before₂ after : List ℕ} {p q : PartAnswer}
    → TurnsPart d c r key 0 n reg block before mid p → p.answer.refusal ≡ 0 → TurnsPart d c r key n r p.reg mid before₂ after q
    → Turns d c r key block before₂ after q.answer
two-parts d c r key block b n reg first went second =
    let most : least n r ≤ least r r = rw (least_above r r (omega arith)) (least-most n r) in
    whole_part d c r key reg block (parts_join d c r key block b 0 n reg first went r (omega arith) most second)

-- both parts by one call: where the first is refused, nothing goes on
pub two-refused : (d : Bool) (c r : ℕ) (key block : List ℕ) (n : ℕ) {room held : List ℕ} (before : List ℕ) {p : PartAnswer}
    → TurnsPart d c r key 0 n 0 block room held p → (p.answer.refusal ≡ 0 → ⊥) → TurnsInTwo d c r key n block room held before before p.answer
unfolding for_two
two-refused d c r key block n {room} before {p} first isnt =
    let rs = for_block d c r (length key) (length block) (length room) in
    let whole = for_block d c r (length key) (length block) (length before) in
    let refusal = refused first.reply isnt in
    record {
      reply = subst (λ (xs : List Refusal). Reply xs (turn_block d c r key block) before before p.answer)
          (passed_over (refusal_of rs) whole rs (λ z. isnt (first.reply.refusal ∙ z)))
          (refused-reply first.reply.refusal isnt (refl, refusal.count));
      kept = first.reply.output;
    }

-- and where it is served, the block is done
pub two-served : (d : Bool) (c r : ℕ) (key block : List ℕ) → BlockOf c block → (n : ℕ) {room held before after : List ℕ} {p q : PartAnswer}
    → TurnsPart d c r key 0 n 0 block room held p → p.answer.refusal ≡ 0 → TurnsPart d c r key n r p.reg held before after q
    → TurnsInTwo d c r key n block room held before after q.answer
unfolding for_two
two-served d c r key block b n {room} {held} {before} {after} {q = q} first went second =
    let rs = for_block d c r (length key) (length block) (length room) in
    let whole = for_block d c r (length key) (length block) (length before) in
    record {
      reply = subst (λ (xs : List Refusal). Reply xs (turn_block d c r key block) before after q.answer)
          (chosen (refusal_of rs) whole rs (sym first.reply.refusal ∙ went)) (two-parts d c r key block b n 0 first went second);
      kept = first.reply.output;
    }

-- what a card has in hand that stops after n rounds, or after the last: the register where the next round key of that direction stands, and the bytes of the
-- state after the rounds with the first n round keys of that direction
pub stopped : (d : Bool) (c r : ℕ) (key block : List ℕ) (n reg : ℕ) {before mid : List ℕ} {p : PartAnswer} → TurnsPart d c r key 0 n reg block before mid p
    → p.answer.refusal ≡ 0
    → (p.reg ≡ stands (step_block c key) r (number d r (least n r)))
    × (mid ≡ bytes (through round (between d) (numbered (λ (j : ℕ). round_key c r key (place d r j)) (least n r) 0) (state c block)))
stopped d c r key block n reg first went =
    let zero = sym first.reply.refusal ∙ went in
    let known = (blocked _ _ _ _ _ _ zero).keyed in
    let held = parted-stopped d c r key reg block (omega (arith, known.low)) (omega (arith, known.high)) n in
    (first.handed ∙ sym (chosen _ _ _ zero) ∙ held.0, (served first.reply zero).output ∙ ap bytes held.1)
