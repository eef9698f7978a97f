-- Opening a block undoes sealing it, and sealing undoes opening: with any list of round keys, so also with those that a caller filled into a prepared key,
-- and with those of a key. First on the definitions, then on calls of any engines: when a call on a block is served and what it gives, that two calls answer
-- the same, and that one undoes the other.
-- Assumes nothing.
use mathlib.Core.Path.{◌≡◌, sym, ap, ◌∙◌}
use mathlib.Core.Bool.{Bool, true, false, not}
use mathlib.Core.List.{List}
use Prim.Native.Nat.{ℕ, ◌≤◌, ◌<◌}
use lib.Dec.{eqb}
use lib.ListN.{length}
use Rattle.fox_rounds.specs.Skeleton.{turned}
use Rattle.fox_rounds.specs.declared.state.State.{State}
use Rattle.fox_rounds.proofs.Laws.Undoing.{turned-fits, turned-back}
use Rattle.fox_key_schedule.specs.Schedule.{round_keys}
use Rattle.fox_refusals.specs.Refusals.{block_size, for_block, Keyed, LongFor}
use Rattle.fox_refusals.specs.Reply.{Served, Refused, Same}
use Rattle.fox_refusals.specs.Answer.{Answer}
use Rattle.fox_refusals.proofs.Laws.Refusals.{blocked-served, to-open}
use Rattle.fox_refusals.proofs.Laws.Reply.{served, short-key-refused, same}
use Rattle.fox_block.specs.Block.{state, bytes, turn_with, seal_block, open_block, BlockOf}
use Rattle.fox_block.specs.Promise.{TurnsWith, TurnedBack}
use Rattle.fox_block.proofs.Laws.Block.{length-turned}
use Rattle.fox_block.proofs.Laws.States.{state-bytes, bytes-state, state-fits}

-- with any list of round keys, in either direction
module _ (d : Bool) (c : ℕ) (ks block : List ℕ) (b : BlockOf c block) where
  pub turn-back-with : turn_with (not d) c ks (turn_with d c ks block) ≡ block
  unfolding turn_with
  turn-back-with =
      let x = state c block in
      let w = state-fits c block b in
      ap (λ (y : State). bytes (turned (not d) ks y)) (state-bytes c (turned d ks x) (turned-fits d (eqb c 64) ks x w))
      ∙ ap bytes (turned-back d (eqb c 64) ks x w)
      ∙ bytes-state c block b

-- for every cipher, every round count of 12 to 255, every key of 0 to 32 bytes and every block of the right length
module _ (c rounds : ℕ) (key block : List ℕ) (k : Keyed c rounds (length key)) (b : BlockOf c block) where
  pub open-seal : open_block c rounds key (seal_block c rounds key block) ≡ block
  open-seal = turn-back-with true c (round_keys c rounds key) block b

  pub seal-open : seal_block c rounds key (open_block c rounds key block) ≡ block
  seal-open = turn-back-with false c (round_keys c rounds key) block b

-- A call on a block of the cipher's size, with an output as long, is served with the count B and gives the block sealed or opened: opened with keys of every
-- length from 0 to 32 bytes, and sealed with keys of 16 to 32.
module _ (d : Bool) (c rounds key_len : ℕ) (ks block : List ℕ) (k : Keyed c rounds key_len) (long : LongFor d key_len) (size : length block ≡ block_size c) where
  pub block-served : {before after : List ℕ} {r : Answer} → length before ≡ block_size c → TurnsWith d c rounds key_len ks block before after r
      → Served (block_size c) (turn_with d c ks block) after r
  block-served room call =
      let s = served call (blocked-served d (record { keyed = k; long = long; block = size; output = room ∙ sym size })) in
      record { refusal = s.refusal; count = s.count ∙ room; output = s.output }

-- Old blocks open: a call that opens what the definition seals, with a key of any length from 0 to 32 bytes, gives the block back.
pub old-block-opened : (c rounds key_len : ℕ) (ks block : List ℕ) {before after : List ℕ} {r : Answer} → Keyed c rounds key_len → BlockOf c block
    → length before ≡ block_size c → TurnsWith false c rounds key_len ks (turn_with true c ks block) before after r → Served (block_size c) block after r
old-block-opened c rounds key_len ks block k b room call =
    let s = block-served false c rounds key_len ks _ k (to-open key_len) (length-turned true c ks block) room call in
    record { refusal = s.refusal; count = s.count; output = s.output ∙ turn-back-with true c ks block b }

-- A call that seals a block with a key under 16 bytes is refused with 13, with nothing else wrong with the key, whatever block and output are.
pub short-key-block : (c rounds key_len : ℕ) (ks block : List ℕ) {before after : List ℕ} {r : Answer} → Keyed c rounds key_len → key_len < 16
    → TurnsWith true c rounds key_len ks block before after r
    → Refused (for_block true c rounds key_len (length block) (length before)) before after r × (r.refusal ≡ 13)
unfolding for_block
short-key-block c rounds key_len ks block k short call = short-key-refused _ k short call

-- Two calls that seal or open the same block, with outputs of one length, answer the same.
pub blocks-same : (d : Bool) (c rounds key_len : ℕ) (ks block : List ℕ) {before₁ before₂ after₁ after₂ : List ℕ} {r₁ r₂ : Answer}
    → length before₁ ≡ length before₂ → TurnsWith d c rounds key_len ks block before₁ after₁ r₁ → TurnsWith d c rounds key_len ks block before₂ after₂ r₂
    → Same before₁ before₂ after₁ after₂ r₁ r₂
blocks-same d c rounds key_len ks block l a b = same (ap (for_block d c rounds key_len (length block)) l) l a b

-- A call that seals or opens a block, and the inverse call on its output with the same round keys: with a key of 16 to 32 bytes both are served, and the second
-- gives the block back. With the round keys of a key this is any two engines from key bytes; with those that a prepared key holds, whoever filled it, any two
-- engines that use that prepared key.
module _ (d : Bool) (c rounds key_len : ℕ) (ks block : List ℕ) (k : Keyed c rounds key_len) (long : 16 ≤ key_len) (b : BlockOf c block) where
  pub turned-back-calls : {before mid before_back after : List ℕ} {r s : Answer} → length before ≡ block_size c → length before_back ≡ block_size c
      → TurnsWith d c rounds key_len ks block before mid r → TurnsWith (not d) c rounds key_len ks mid before_back after s → TurnedBack c block after r s
  turned-back-calls room room_back first second =
      let there = block-served d c rounds key_len ks block k (λ _. long) b.size room first in
      let back = block-served (not d) c rounds key_len ks _ k (λ _. long) (ap length there.output ∙ length-turned d c ks block) room_back second in
      record {
        served = there.refusal;
        count = there.count;
        served_back = back.refusal;
        count_back = back.count;
        same = back.output ∙ ap (turn_with (not d) c ks) there.output ∙ turn-back-with d c ks block b;
      }
