-- A run in counter mode, byte by byte, in the words of 01: run byte n is XORed with byte n mod B of the sealed counter block number n div B. On the
-- definition, and on what a served call wrote, by any engine.
-- Assumes nothing.
use mathlib.Core.Path.{◌≡◌, ap, ◌∙◌}
use mathlib.Core.Bool.{Bool}
use mathlib.Core.List.{List}
use Prim.Native.Nat.{ℕ, ◌+◌, ◌/◌, ◌%◌, ◌<◌}
use lib.ListN.{length, get_or}
use Rattle.fox_layers.specs.Words.{◌⊕◌}
use Rattle.fox_refusals.specs.Refusals.{block_size}
use Rattle.fox_refusals.specs.Answer.{Answer}
use Rattle.fox_block.specs.Block.{seal_with}
use Rattle.fox_run.specs.Counter.{counter_block}
use Rattle.fox_run.specs.Run.{streamed, key_stream, run_with}
use Rattle.fox_run.specs.Promise.{RunsWith}
use Rattle.fox_run.proofs.Laws.XorFrom.{xor_from-at}
use Rattle.fox_run.proofs.Laws.Served.{call-did}

module _ (c : ℕ) (rks counter : List ℕ) (n : ℕ) (ds : List ℕ) (i : ℕ) (within : i < length ds) where
  pub run-byte : get_or (run_with c rks counter n ds) i 0
      ≡ get_or (seal_with c rks (counter_block counter ((n + i) / block_size c))) ((n + i) % block_size c) 0 ⊕ get_or ds i 0
  unfolding streamed key_stream run_with
  run-byte = xor_from-at _ n ds i within

  pub call-byte : (d : Bool) (rounds key_len : ℕ) {before after : List ℕ} {r : Answer} → RunsWith d c rounds key_len rks counter n ds before after r → r.refusal ≡ 0
      → get_or after i 0 ≡ get_or (seal_with c rks (counter_block counter ((n + i) / block_size c))) ((n + i) % block_size c) 0 ⊕ get_or ds i 0
  call-byte d rounds key_len call served =
      ap (λ (bytes : List ℕ). get_or bytes i 0) (call-did d c rounds key_len rks counter n ds call served).output ∙ run-byte
