-- A call's answer: what code answers, a Result, and its refusal number and count as the promises state them.
-- Assumes nothing.
use Rattle.std.specs.Prelude.{ℕ, Result, Ok, Err}
use Rattle.fox_refusals.specs.declared.refusal.Refusal.{Refusal}
use Rattle.fox_refusals.specs.declared.refusal.Refusal.TheVariants.{WrongCipher, WrongRounds, LongKey, WrongBlockLength, LongData, WrongOutputLength, PastEnd}
use Rattle.fox_refusals.specs.declared.refusal.Refusal.TheVariants.{BrokenSheet, WrongTagLength, OtherTag, BrokenHeader, BrokenRest, ShortKey}

-- what a call returns besides its output: the refusal number, 0 for success, and the count of bytes written
pub record Answer : Type 0 where
  pub refusal : ℕ
  pub count : ℕ

-- a refusal's number
abbrev pub number_of : Refusal → ℕ
number_of WrongCipher = 1
number_of WrongRounds = 2
number_of LongKey = 3
number_of WrongBlockLength = 4
number_of LongData = 5
number_of WrongOutputLength = 6
number_of PastEnd = 7
number_of BrokenSheet = 8
number_of WrongTagLength = 9
number_of OtherTag = 10
number_of BrokenHeader = 11
number_of BrokenRest = 12
number_of ShortKey = 13

-- the number of an answer: 0 where the call is served
abbrev pub number_in : {A : Type 0} → Result A Refusal → ℕ
number_in (Ok value) = 0
number_in (Err refusal) = number_of refusal

-- the answer of a call that tells the count of the bytes that it wrote
abbrev pub answer_of : Result ℕ Refusal → Answer
answer_of (Ok count) = record { refusal = 0; count = count }
answer_of (Err refusal) = record { refusal = number_of refusal; count = 0 }

-- the answer of a call that writes nothing
abbrev pub verdict_of : {A : Type 0} → Result A Refusal → Answer
verdict_of r = record { refusal = number_in r; count = 0 }
