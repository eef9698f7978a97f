-- The refusals of 01, "Numbers handed back", and those of tags and short keys, of 02: each is a number and the test of when it is given; the first that
-- applies is taken. `sealing` says whether a call seals or opens.
-- Assumes nothing.
use Rattle.std.specs.Prelude.{◌≡◌, ℕ, ◌+◌, ◌≤◌, Bool, true, false, cond, not, ◌⊎◌, List, [], ◌∷◌, ◌++◌, length, ◌==◌, nat_lt}

pub record Refusal : Type 0 where
  pub number : ℕ
  pub applies : Bool

-- the number of the first refusal that applies, and 0 where none does
unfoldable pub refusal_of : List Refusal → ℕ
refusal_of [] = 0
refusal_of (x ∷ xs) = cond x.applies x.number (refusal_of xs)

-- n is the number of the first refusal of a list that applies
pub data First (n : ℕ) : List Refusal → Type 0 where
  here : {x : Refusal} {xs : List Refusal} → x.applies ≡ true → x.number ≡ n → First n (x ∷ xs)
  later : {x : Refusal} {xs : List Refusal} → x.applies ≡ false → First n xs → First n (x ∷ xs)

-- the two forms that most tests have: a number is above a limit; two numbers differ
abbrev pub above : ℕ → ℕ → Bool
above limit n = nat_lt limit n

abbrev pub differs : ℕ → ℕ → Bool
differs a b = not (a == b)

-- the block size in bytes: B
unfoldable pub block_size : ℕ → ℕ
block_size cipher = cond (cipher == 64) 8 16

-- 1: cipher is neither 64 nor 128
unfoldable pub wrong_cipher : ℕ → Refusal
wrong_cipher cipher = record { number = 1; applies = cond (cipher == 64) false (not (cipher == 128)) }

-- 2: rounds below 12 or above 255
unfoldable pub wrong_rounds : ℕ → Refusal
wrong_rounds rounds = record { number = 2; applies = cond (nat_lt rounds 12) true (nat_lt 255 rounds) }

-- 3: key longer than 32 bytes
unfoldable pub long_key : ℕ → Refusal
long_key key_len = record { number = 3; applies = above 32 key_len }

-- 13: sealing with a key under 16 bytes
unfoldable pub short_key : Bool → ℕ → Refusal
short_key sealing key_len = record { number = 13; applies = cond sealing (nat_lt key_len 16) false }

-- 4: input block or counter block is not B bytes
unfoldable pub wrong_block_length : ℕ → ℕ → Refusal
wrong_block_length cipher block_len = record { number = 4; applies = differs block_len (block_size cipher) }

-- 5: run data above 65,536 bytes in one call
unfoldable pub long_data : ℕ → Refusal
long_data input_len = record { number = 5; applies = above 65536 input_len }

-- 6: output length is not the input length
unfoldable pub wrong_output_length : ℕ → ℕ → Refusal
wrong_output_length input_len out_len = record { number = 6; applies = differs out_len input_len }

-- 7: offset plus length above 1,073,741,824
unfoldable pub past_end : ℕ → ℕ → Refusal
past_end offset input_len = record { number = 7; applies = above 1073741824 (offset + input_len) }

-- 5, for tags: message above 1,073,741,824 bytes
unfoldable pub long_message : ℕ → Refusal
long_message message_len = record { number = 5; applies = above 1073741824 message_len }

-- 6, where a tag is made: tag buffer is not B bytes; 9, where one is tested: stored tag is not B bytes. `making` says which
unfoldable pub wrong_tag_length : Bool → ℕ → ℕ → Refusal
wrong_tag_length making cipher tag_len = record { number = cond making 6 9; applies = differs tag_len (block_size cipher) }

-- the test whether two lists are the same
unfoldable pub same : List ℕ → List ℕ → Bool
same [] [] = true
same [] (y ∷ ys) = false
same (x ∷ xs) [] = false
same (x ∷ xs) (y ∷ ys) = cond (x == y) (same xs ys) false

-- 10: tag differs
unfoldable pub other_tag : List ℕ → List ℕ → Refusal
other_tag right stored = record { number = 10; applies = not (same right stored) }

-- one more test in a chain of refusals: an earlier refusal stays, and where there is none this one is given if it applies
unfoldable pub or_else : ℕ → Bool → ℕ → ℕ
or_else refusal applies number = cond (refusal == 0) (cond applies number 0) refusal

-- the refusals of a call that prepares a key
unfoldable pub for_key : ℕ → ℕ → ℕ → List Refusal
for_key cipher rounds key_len = wrong_cipher cipher ∷ wrong_rounds rounds ∷ long_key key_len ∷ []

-- the refusals of a key that is to seal or to open
unfoldable pub for_turn : Bool → ℕ → ℕ → ℕ → List Refusal
for_turn sealing cipher rounds key_len = for_key cipher rounds key_len ++ (short_key sealing key_len ∷ [])

-- the refusals of a call on one block
unfoldable pub for_block : Bool → ℕ → ℕ → ℕ → ℕ → ℕ → List Refusal
for_block sealing cipher rounds key_len block_len out_len =
    for_turn sealing cipher rounds key_len ++ (wrong_block_length cipher block_len ∷ wrong_output_length block_len out_len ∷ [])

-- the refusals of a stretch that come after those of the key
unfoldable pub for_stretch : ℕ → ℕ → ℕ → ℕ → ℕ → List Refusal
for_stretch cipher counter_len offset input_len out_len =
    wrong_block_length cipher counter_len ∷ long_data input_len ∷ wrong_output_length input_len out_len ∷ past_end offset input_len ∷ []

-- the refusals of a call on a stretch of a run: 1 to 7, with 13 after 3
unfoldable pub for_run : Bool → ℕ → ℕ → ℕ → ℕ → ℕ → ℕ → ℕ → List Refusal
for_run sealing cipher rounds key_len counter_len offset input_len out_len =
    for_turn sealing cipher rounds key_len ++ for_stretch cipher counter_len offset input_len out_len

-- the refusals of a call that makes a run's first counter block from the run's number
unfoldable pub for_counter : ℕ → ℕ → List Refusal
for_counter cipher counter_len = wrong_cipher cipher ∷ wrong_block_length cipher counter_len ∷ []

-- the refusals of a call that makes a tag; of one that tests a tag all but 10, which comes after them
unfoldable pub for_tag : Bool → ℕ → ℕ → ℕ → ℕ → ℕ → List Refusal
for_tag making cipher rounds key_len message_len tag_len =
    for_key cipher rounds key_len ++ (long_message message_len ∷ wrong_tag_length making cipher tag_len ∷ [])

-- the refusals of a call that tests a stored tag, with the right one
unfoldable pub for_tag_test : ℕ → ℕ → ℕ → ℕ → List ℕ → List ℕ → List Refusal
for_tag_test cipher rounds key_len message_len right stored =
    for_tag false cipher rounds key_len message_len (length stored) ++ (other_tag right stored ∷ [])

-- what holds where a call that prepares a key meets no refusal
pub record Keyed (c r k : ℕ) : Type 0 where
  pub cipher : (c ≡ 64) ⊎ (c ≡ 128)
  pub low : 12 ≤ r
  pub high : r ≤ 255
  pub key : k ≤ 32

-- a key to seal with has at least 16 bytes; to open with, any number
abbrev pub LongFor : Bool → ℕ → Type 0
LongFor sealing k = sealing ≡ true → 16 ≤ k

-- what holds where a call on one block meets no refusal
pub record Blocked (sealing : Bool) (c r k b o : ℕ) : Type 0 where
  pub keyed : Keyed c r k
  pub long : LongFor sealing k
  pub block : b ≡ block_size c
  pub output : o ≡ b

-- what holds where a call on a stretch of a run meets no refusal
pub record Stretched (sealing : Bool) (c r k b n d o : ℕ) : Type 0 where
  pub keyed : Keyed c r k
  pub long : LongFor sealing k
  pub counter : b ≡ block_size c
  pub short : d ≤ 65536
  pub output : o ≡ d
  pub end : n + d ≤ 1073741824

-- what holds where a call on a tag meets no refusal, or 10 alone
pub record Tagged (c r k m t : ℕ) : Type 0 where
  pub keyed : Keyed c r k
  pub message : m ≤ 1073741824
  pub tag : t ≡ block_size c
