-- A sheet as it is written from values, and which values a sheet can have (01, "The bench program").
-- Assumes nothing.
use Rattle.std.specs.Prelude.{◌≡◌, ℕ, ◌≤◌, Bool, cond, List, [], ◌∷◌, length}
use Rattle.fox_layers.specs.Words.{Bytes}
use Rattle.fox_text.specs.Lines.{text_of}
use Rattle.fox_text.specs.Fields.{decimal_line, pairs_line}
use Rattle.fox_text.specs.Names.{cipher_name, rounds_name}
use Rattle.fox_sheet.specs.Sheet.{key_name, seal_way, open_way, block_name, broken_line, Values, values_of}

unfoldable pub way_text : Bool → List ℕ
way_text sealing = cond sealing seal_way open_way

unfoldable pub lines_of : Values → List (List ℕ)
lines_of v =
    decimal_line cipher_name v.cipher ∷ decimal_line rounds_name v.rounds ∷ pairs_line key_name v.key ∷ way_text v.sealing
    ∷ pairs_line block_name v.block ∷ []

-- the sheet of these values: five lines, each ended by one line feed
unfoldable pub sheet_text : Values → List ℕ
sheet_text v = text_of (lines_of v)

pub record InRange (v : Values) : Type 0 where
  pub cipher : v.cipher ≤ 65535
  pub rounds : v.rounds ≤ 65535
  pub key : length v.key ≤ 64
  pub key_bytes : Bytes v.key
  pub block : length v.block ≤ 32
  pub block_bytes : Bytes v.block

-- a sheet written from values in range
pub record WrittenFrom (v : Values) (t : List ℕ) : Type 0 where
  pub range : InRange v
  pub text : t ≡ sheet_text v

-- a well-formed sheet, and what it says
pub record Says (v : Values) (t : List ℕ) : Type 0 where
  pub right : broken_line t ≡ 0
  pub values : values_of t ≡ v
