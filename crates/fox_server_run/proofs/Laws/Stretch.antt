-- A stretch by cases of the cipher: what the steps need where no refusal applies, and that what they write is the definition's stretch with the round keys
-- that an array holds.
-- Assumes nothing.
use mathlib.Core.Path.{◌≡◌, sym, ap, ap₂, ◌∙◌}
use mathlib.Core.Bool.{Bool}
use mathlib.Core.List.{List}
use Prim.Native.Nat.{ℕ, ◌≤◌}
use native.Mathlib.Omega.{arith}
use lib.Dec.{lit≤}
use lib.ListN.{length}
use Rattle.fox_rounds.specs.Skeleton.{size}
use Rattle.fox_rounds.specs.declared.state.State.{State}
use Rattle.fox_rounds.specs.declared.state.State.TheVariants.{Of64, Of128}
use Rattle.fox_rounds.specs.RoundKeys.{round_keys_in64, round_keys_in128}
use Rattle.fox_refusals.specs.Refusals.{block_size, Stretched}
use Rattle.fox_block.specs.Block.{state}
use Rattle.fox_block.proofs.Laws.Block.{state-128}
use Rattle.fox_server_key.specs.Prepared.{held_keys}
use Rattle.fox_server_key.proofs.Laws.RoundKeys.{held_keys-64, held_keys-128}
use Rattle.fox_run.specs.Run.{xor_from, run_with}
use Rattle.fox_run.specs.States.{stream}
use Rattle.fox_run.specs.Parts.{Ready}
use Rattle.fox_run.proofs.Laws.Streams.{run-streamed}

pub ready : {d : Bool} {c r k n : ℕ} (counter input out : List ℕ) → Stretched d c r k (length counter) n (length input) (length out)
    → Ready (block_size c) r counter n input out
ready counter input out s =
    record { some = omega (arith, s.keyed.low); few = s.keyed.high; block = s.counter; end = s.end; output = s.output }

-- the same with the block size as a number
pub sized : {r n A B : ℕ} {counter input out : List ℕ} → Ready A r counter n input out → A ≡ B → Ready B r counter n input out
sized s e = record { some = s.some; few = s.few; block = s.block ∙ e; end = s.end; output = s.output }

module _ (c : ℕ) (words : List ℕ) (r : ℕ) (counter : List ℕ) (n : ℕ) (ds : List ℕ) (e : length counter ≡ block_size c) where
  pub run-in-64 : c ≡ 64 → xor_from (stream (round_keys_in64 words r) (state 64 counter)) n ds ≡ run_with c (held_keys c words r) counter n ds
  run-in-64 is =
      ap₂ (λ (ks : List ℕ) (x : State). xor_from (stream ks x) n ds) (sym (held_keys-64 c words r is)) (ap (λ (k : ℕ). state k counter) (sym is))
      ∙ run-streamed c (held_keys c words r) counter n ds e

  pub run-in-128 : (c ≡ 64 → ⊥) → xor_from (stream (round_keys_in128 words r) (state 128 counter)) n ds ≡ run_with c (held_keys c words r) counter n ds
  run-in-128 isnt =
      ap₂ (λ (ks : List ℕ) (x : State). xor_from (stream ks x) n ds) (sym (held_keys-128 c words r isnt))
      (state-128 128 counter (λ h. omega (arith, h)) ∙ sym (state-128 c counter isnt))
      ∙ run-streamed c (held_keys c words r) counter n ds e

-- a block has at most 16 bytes
pub size-few : (x : State) → size x ≤ 16
unfolding size
size-few (Of64 x) = lit≤ tt
size-few (Of128 x) = lit≤ tt
