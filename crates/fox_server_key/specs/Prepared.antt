-- The prepared key (01): cipher, rounds, key length, and the round keys in 510 words of 64 bits: one word for each round of FOX64, two for each of FOX128,
-- the left first; the rest are 0.
-- Assumes nothing.
use Rattle.std.specs.Prelude.{◌≡◌, ℕ, ◌-◌, ◌*◌, List, [], ◌∷◌, ◌++◌, cond, eqb, length, get_or, replicate, Result, Ok, Err}
use Rattle.fox_rounds.specs.Rounds.{left, right}
use Rattle.fox_rounds.specs.RoundKeys.{round_keys_in64, round_keys_in128}
use Rattle.fox_key_schedule.specs.Schedule.{round_keys}
use Rattle.fox_refusals.specs.Refusals.{refusal_of, block_size, for_key}
use Rattle.fox_refusals.specs.Answer.{Answer, number_of}
use Rattle.fox_refusals.specs.declared.refusal.Refusal.{Refusal}
use Rattle.fox_server_key.specs.declared.prepared.Prepared.{Prepared}

-- round keys of 128 bits as words of 64 bits, the left half first
unfoldable pub in_halves : List ℕ → List ℕ
in_halves [] = []
in_halves (k ∷ ks) = left 64 k ∷ right 64 k ∷ in_halves ks

-- words filled up with 0 to 510
unfoldable pub filled : List ℕ → List ℕ
filled ws = ws ++ replicate (510 - length ws) 0

unfoldable pub prepared_words : ℕ → ℕ → List ℕ → List ℕ
prepared_words cipher rounds key =
    let other = filled (in_halves (round_keys cipher rounds key)) in
    cond (eqb cipher 64) (filled (round_keys cipher rounds key)) other

-- the prepared key of a key
unfoldable pub prepared_key : ℕ → ℕ → List ℕ → Prepared
prepared_key cipher rounds key = record { cipher = cipher; rounds = rounds; key_len = length key; keys = prepared_words cipher rounds key }

-- the prepared key of a refused call: all zeros
unfoldable pub no_key : Prepared
no_key = record { cipher = 0; rounds = 0; key_len = 0; keys = replicate 510 0 }

-- what preparing a key returns: the answer, of which the count is the bytes of round keys in use, and the prepared key
pub record Preparation : Type 0 where
  pub answer : Answer
  pub key : Prepared

-- the same from what code answers: a refused call has the count 0, and no key
abbrev pub preparation_of : Result Prepared Refusal → Preparation
preparation_of (Ok p) = record { answer = record { refusal = 0; count = block_size p.cipher * p.rounds }; key = p }
preparation_of (Err e) = record { answer = record { refusal = number_of e; count = 0 }; key = no_key }

-- what preparing a key returns, whole: refusals 1 to 3, the count of bytes in use, and the prepared key
pub record Prepares (c n : ℕ) (bytes : List ℕ) (r : Preparation) : Type 0 where
  pub refusal : r.answer.refusal ≡ refusal_of (for_key c n (length bytes))
  pub count : r.answer.count ≡ cond (eqb (refusal_of (for_key c n (length bytes))) 0) (block_size c * n) 0
  pub key : r.key ≡ cond (eqb (refusal_of (for_key c n (length bytes))) 0) (prepared_key c n bytes) no_key

-- a key that was prepared: refusal 0, the count of bytes in use, which is rounds times the block size, and the key's cipher, rounds and length
pub record PreparedFor (c n k : ℕ) (r : Preparation) : Type 0 where
  pub refusal : r.answer.refusal ≡ 0
  pub count : r.answer.count ≡ block_size c * n
  pub cipher : r.key.cipher ≡ c
  pub rounds : r.key.rounds ≡ n
  pub key_len : r.key.key_len ≡ k

-- a key that was refused: count 0, and zeros everywhere
pub record Empty (r : Preparation) : Type 0 where
  pub count : r.answer.count ≡ 0
  pub cipher : r.key.cipher ≡ 0
  pub rounds : r.key.rounds ≡ 0
  pub key_len : r.key.key_len ≡ 0
  pub entries : (i : ℕ) → get_or r.key.keys i 0 ≡ 0

-- the round keys in 510 words, by the cipher
unfoldable pub held_keys : ℕ → List ℕ → ℕ → List ℕ
held_keys cipher words rounds =
    let other = round_keys_in128 words rounds in
    cond (eqb cipher 64) (round_keys_in64 words rounds) other

-- the round keys that a prepared key holds, whoever filled it
unfoldable pub round_keys_in : Prepared → List ℕ
round_keys_in p = held_keys p.cipher p.keys p.rounds
