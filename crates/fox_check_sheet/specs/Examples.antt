-- Sheets whose block is served: 01's own sheet, its answer opened again, and a block opened with an empty key.
-- Assumes nothing.
use Rattle.std.specs.Prelude.{[], ◌∷◌}
use Rattle.fox_text.specs.Ascii.{ascii}
use Rattle.fox_sheet.specs.Examples.{Sheets}

-- each sheet with what is printed for it
unfoldable pub served : Sheets
served = (
  ascii "cipher=64\nrounds=16\nkey=00112233445566778899AABBCCDDEEFF\nway=seal\nblock=0123456789ABCDEF\n",
  "refusal=0\ncipher=64\nrounds=16\nkeybits=128\nblock=B85D6B766DCE952E\n",
)
    ∷ (
      ascii "cipher=64\nrounds=16\nkey=00112233445566778899AABBCCDDEEFF\nway=open\nblock=B85D6B766DCE952E\n",
      "refusal=0\ncipher=64\nrounds=16\nkeybits=128\nblock=0123456789ABCDEF\n",
    )
    ∷ (ascii "cipher=64\nrounds=12\nkey=\nway=open\nblock=143F1DD7FBF5DEAC\n", "refusal=0\ncipher=64\nrounds=12\nkeybits=0\nblock=0000000000000000\n")
    ∷ []
