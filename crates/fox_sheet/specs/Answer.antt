-- What the bench program prints for a sheet (01, "The bench program"): every byte, for every sheet.
-- Assumes nothing.
use Rattle.std.specs.Prelude.{ℕ, ◌*◌, ◌≤◌, Bool, cond, List, ◌++◌, length, eqb}
use Rattle.fox_refusals.specs.Refusals.{refusal_of, for_block}
use Rattle.fox_block.specs.Block.{turn_block}
use Rattle.fox_text.specs.Ascii.{ascii}
use Rattle.fox_text.specs.Fields.{decimal_line_text, pairs_line_text}
use Rattle.fox_text.specs.Put.{Stored}
use Rattle.fox_text.specs.Names.{cipher_name, rounds_name}
use Rattle.fox_sheet.specs.Sheet.{block_name, broken_line, Values, values_of}

unfoldable pub refusal_name : List ℕ
refusal_name = ascii "refusal="

unfoldable pub line_name : List ℕ
line_name = ascii "line="

unfoldable pub keybits_name : List ℕ
keybits_name = ascii "keybits="

-- the answer to a malformed sheet: refusal 8, and the line
unfoldable pub broken_text : ℕ → List ℕ
broken_text l = decimal_line_text refusal_name 8 ++ decimal_line_text line_name l

-- the answer for a block that is sealed or opened
unfoldable pub served_text : ℕ → ℕ → ℕ → List ℕ → List ℕ
served_text cipher rounds key_len block =
    decimal_line_text refusal_name 0 ++ decimal_line_text cipher_name cipher ++ decimal_line_text rounds_name rounds ++ decimal_line_text keybits_name (key_len * 8)
    ++ pairs_line_text block_name block

-- the values of a sheet, from its five values one by one
abbrev pub values_from : Bool → ℕ → ℕ → List ℕ → List ℕ → Values
values_from sealing cipher rounds key block = record { cipher = cipher; rounds = rounds; key = key; sealing = sealing; block = block }

-- the block, sealed or opened as the line `way=` says
abbrev pub turned : Values → List ℕ
turned v = turn_block v.sealing v.cipher v.rounds v.key v.block

-- the refusal number of the sheet's block, with an output as long as the block
unfoldable pub refusal : Values → ℕ
refusal v = refusal_of (for_block v.sealing v.cipher v.rounds (length v.key) (length v.block) (length v.block))

unfoldable pub block_text : Values → List ℕ
block_text v =
    let served = served_text v.cipher v.rounds (length v.key) (turned v) in
    cond (eqb (refusal v) 0) served (decimal_line_text refusal_name (refusal v))

unfoldable pub answer_of : List ℕ → List ℕ
answer_of t = cond (eqb (broken_line t) 0) (block_text (values_of t)) (broken_text (broken_line t))

-- a key and a block of lengths that a sheet can have, and room for an answer
pub record Room (key_len : ℕ) (bytes out : List ℕ) : Type 0 where
  pub key : key_len ≤ 64
  pub block : length bytes ≤ 32
  pub answer : 125 ≤ length out

-- the answer, of at most 125 bytes, at the start of a buffer whose rest is as it was, and the answer's length returned
abbrev pub Answers : List ℕ → List ℕ → List ℕ → ℕ → Type 0
Answers sheet before after r = Stored 125 (answer_of sheet) before after r
