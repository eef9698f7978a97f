-- Part of a block's rounds, from the bytes of the block, or of its state between two rounds, and the register in hand; and what calls promise, whole.
-- Assumes nothing.
use Rattle.std.specs.Prelude.{◌≡◌, ℕ, zero, suc, ◌-◌, ◌%◌, ◌^◌, Bool, cond, List, ltb, eqb, length, Result, Ok, Err}
use Rattle.fox_key_schedule.specs.Schedule.{key_at, step_block}
use Rattle.fox_key_schedule.specs.Step.{stands, number}
use Rattle.fox_refusals.specs.Refusals.{Refusal, refusal_of, for_block}
use Rattle.fox_refusals.specs.Reply.{Reply}
use Rattle.fox_refusals.specs.Answer.{Answer, number_of}
use Rattle.fox_refusals.specs.declared.refusal.Refusal as code
use Rattle.fox_block.specs.Block.{state, bytes, turn_block}
use Rattle.fox_card_block.specs.Hold.{rounds_on}
use Rattle.fox_card_block.specs.declared.rounds.Hold.{Hold}

-- the smaller of two numbers
unfoldable pub least : ℕ → ℕ → ℕ
least a b = cond (ltb a b) a b

-- the register's value for round number i of r, with step blocks of g steps: for the first round that of the direction, and for a later one the 24 lowest bits
-- of what is handed in
unfoldable pub in_hand : Bool → ℕ → ℕ → ℕ → ℕ → ℕ
in_hand sealing g r zero reg = stands g r (number sealing r 0)
in_hand sealing g r (suc i) reg = reg % 2 ^ 24

-- the block in hand after its rounds from number i on, up to the one before number j, both at most r
unfoldable pub parted : Bool → ℕ → ℕ → List ℕ → ℕ → ℕ → ℕ → List ℕ → Hold
parted sealing cipher r key i j reg block =
    let g = step_block cipher key in
    let h : Hold = record { state = state cipher block; reg = in_hand sealing g r i reg } in
    rounds_on sealing (key_at cipher key) g (least i r) (least j r - least i r) h

-- what a call on part of a block's rounds returns: the answer, and the register's value for the next round, 0 where the call is refused
pub record PartAnswer : Type 0 where
  pub answer : Answer
  pub reg : ℕ

-- the same from what code answers, the register or a refusal, with the length of the output, which is the count of a call that is served
abbrev pub part_answer : ℕ → Result ℕ code.Refusal → PartAnswer
part_answer n (Ok reg) = record { answer = record { refusal = 0; count = n }; reg = reg }
part_answer n (Err e) = record { answer = record { refusal = number_of e; count = 0 }; reg = 0 }

-- the whole answer of a call that hands back a block in hand: refusal number, count and output, which has the bytes of the state; and the register's value for
-- the next round, 0 where the call is refused
pub record HandsBack (refusals : List Refusal) (h : Hold) (before after : List ℕ) (p : PartAnswer) : Type 0 where
  pub reply : Reply refusals (bytes h.state) before after p.answer
  pub handed : p.reg ≡ cond (eqb (refusal_of refusals) 0) h.reg 0

-- a call on part of a block's rounds, with the output before and after; it is refused as a call on the whole block
abbrev pub TurnsPart : Bool → ℕ → ℕ → List ℕ → ℕ → ℕ → ℕ → List ℕ → List ℕ → List ℕ → PartAnswer → Type 0
TurnsPart sealing cipher r key i j reg block before after p =
    HandsBack (for_block sealing cipher r (length key) (length block) (length before)) (parted sealing cipher r key i j reg block) before after p

-- the refusals of a call that does a block in two parts: first those of a block with the room for the state as its output, and then those of the block
unfoldable pub for_two : Bool → ℕ → ℕ → ℕ → ℕ → ℕ → ℕ → List Refusal
for_two sealing cipher r key_len block_len room_len out_len =
    let first = for_block sealing cipher r key_len block_len room_len in
    cond (eqb (refusal_of first) 0) (for_block sealing cipher r key_len block_len out_len) first

-- a block stopped after n rounds and gone on with, with the room for the state, and the output, before and after. The output has the bytes of the block turned
-- at once. The room has those of the state after n rounds where a call with the room as its output is served, so also where the output's length is then
-- refused; else it stays as it was
pub record TurnsInTwo (sealing : Bool) (cipher r : ℕ) (key : List ℕ) (n : ℕ) (block room held before after : List ℕ) (a : Answer) : Type 0 where
  pub reply : Reply (for_two sealing cipher r (length key) (length block) (length room) (length before)) (turn_block sealing cipher r key block) before after a
  pub kept : let first = for_block sealing cipher r (length key) (length block) (length room) in
      held ≡ cond (eqb (refusal_of first) 0) (bytes (parted sealing cipher r key 0 n 0 block).state) room
