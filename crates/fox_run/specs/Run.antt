-- A run in counter mode, CTR (SP 800-38A §6.5): every byte is XORed with a byte of the key stream, which is the sealed counter blocks one after the other.
-- Sealing and opening are the same XOR.
-- Assumes nothing.
use Rattle.std.specs.Prelude.{ℕ, suc, ◌/◌, ◌%◌, List, [], ◌∷◌, get_or}
use Rattle.fox_layers.specs.Words.{◌⊕◌}
use Rattle.fox_refusals.specs.Refusals.{block_size}
use Rattle.fox_key_schedule.specs.Schedule.{round_keys}
use Rattle.fox_block.specs.Block.{seal_with}
use Rattle.fox_run.specs.Counter.{counter_block}

-- byte n of a stream of blocks of B bytes: byte n mod B of block number n div B
unfoldable pub streamed : ℕ → (ℕ → List ℕ) → ℕ → ℕ
streamed B block n = get_or (block (n / B)) (n % B) 0

-- bytes XORed with those of a stream, from its byte n on
unfoldable pub xor_from : (ℕ → ℕ) → ℕ → List ℕ → List ℕ
xor_from stream n [] = []
xor_from stream n (d ∷ ds) = (stream n ⊕ d) ∷ xor_from stream (suc n) ds

-- the key stream: the counter blocks, each sealed with a list of round keys
unfoldable pub key_stream : ℕ → List ℕ → List ℕ → ℕ → ℕ
key_stream cipher rks counter = streamed (block_size cipher) (λ (i : ℕ). seal_with cipher rks (counter_block counter i))

-- the bytes of a run from its byte n on, sealed or opened with a list of round keys
unfoldable pub run_with : ℕ → List ℕ → List ℕ → ℕ → List ℕ → List ℕ
run_with cipher rks counter n bytes = xor_from (key_stream cipher rks counter) n bytes

-- the same with the round keys of a key
abbrev pub run : ℕ → ℕ → List ℕ → List ℕ → ℕ → List ℕ → List ℕ
run cipher rounds key counter n bytes = run_with cipher (round_keys cipher rounds key) counter n bytes
