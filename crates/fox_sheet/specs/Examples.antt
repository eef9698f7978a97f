-- Sheets, each with what is printed for it: sheets with each line in turn malformed as 01 names it, and sheets whose block is refused, where the lowest
-- refusal number comes first.
-- Assumes nothing.
use Rattle.std.specs.Prelude.{◌≡◌, List, [], ◌∷◌, ◌++◌, map, ℕ, zero, suc}
use Prim.Native.String.{String}
use Rattle.fox_text.specs.Ascii.{ascii}
use Rattle.fox_sheet.specs.Answer.{answer_of}

-- sheets, each with what is printed for it
abbrev pub Sheets : Type 0
Sheets = List (List ℕ × String)

abbrev pub Printed : Sheets → Type 0
Printed xs = map (λ x. answer_of x.0) xs ≡ map (λ x. ascii x.1) xs

-- n pairs of hex digits, all 00
unfoldable pub zeros : ℕ → List ℕ
zeros zero = []
zeros (suc n) = 48 ∷ 48 ∷ zeros n

unfoldable pub broken : Sheets
broken =
    ([], "refusal=8\nline=1\n")
    ∷ (ascii "cipher=064\nrounds=16\nkey=\nway=seal\nblock=0123456789ABCDEF\n", "refusal=8\nline=1\n")
    ∷ (ascii "cipher=65536\nrounds=16\nkey=\nway=seal\nblock=0123456789ABCDEF\n", "refusal=8\nline=1\n")
    ∷ (ascii "cipher=64\r\nrounds=16\nkey=\nway=seal\nblock=0123456789ABCDEF\n", "refusal=8\nline=1\n")
    ∷ (ascii "cipher=\nrounds=16\nkey=\nway=seal\nblock=0\n", "refusal=8\nline=1\n")
    ∷ (ascii "cipher=64\n", "refusal=8\nline=2\n")
    ∷ (ascii "cipher=64\nrounds=00\nkey=\nway=seal\nblock=0123456789ABCDEF\n", "refusal=8\nline=2\n")
    ∷ (ascii "cipher=64\n\nrounds=16\nkey=\nway=seal\nblock=0123456789ABCDEF\n", "refusal=8\nline=2\n")
    ∷ (ascii "cipher=64\nrounds=16\nkey=aB\nway=seal\nblock=0123456789ABCDEF\n", "refusal=8\nline=3\n")
    ∷ (ascii "cipher=64\nrounds=16\nkey=001\nway=seal\nblock=0123456789ABCDEF\n", "refusal=8\nline=3\n")
    ∷ (ascii "cipher=64\nrounds=16\nkey=" ++ zeros 65 ++ ascii "\nway=seal\nblock=0123456789ABCDEF\n", "refusal=8\nline=3\n")
    ∷ (ascii "cipher=64\nrounds=16\nkey=\nway=sealed\nblock=0123456789ABCDEF\n", "refusal=8\nline=4\n")
    ∷ (ascii "cipher=64\nrounds=16\nkey=\nway=\nblock=0123456789ABCDEF\n", "refusal=8\nline=4\n")
    ∷ (ascii "cipher=64\nrounds=16\nkey=\nway=seal\nblock=" ++ zeros 33 ++ ascii "\n", "refusal=8\nline=5\n")
    ∷ (ascii "cipher=0\nrounds=0\nkey=\nway=seal\nblock=0\n", "refusal=8\nline=5\n")
    ∷ (ascii "cipher=64\nrounds=16\nkey=\nway=seal\nblock=0123456789ABCDEF", "refusal=8\nline=5\n")
    ∷ (ascii "cipher=64\nrounds=16\nkey=\nway=seal\nblock=0123456789ABCDEF\n\n", "refusal=8\nline=6\n")
    ∷ (ascii "cipher=64\nrounds=16\nkey=\nway=seal\nblock=0123456789ABCDEF\nx", "refusal=8\nline=6\n")
    ∷ []

unfoldable pub refused : Sheets
refused =
    (ascii "cipher=65535\nrounds=11\nkey=" ++ zeros 33 ++ ascii "\nway=seal\nblock=\n", "refusal=1\n")
    ∷ (ascii "cipher=0\nrounds=16\nkey=\nway=open\nblock=0123456789ABCDEF\n", "refusal=1\n")
    ∷ (ascii "cipher=64\nrounds=11\nkey=" ++ zeros 33 ++ ascii "\nway=seal\nblock=\n", "refusal=2\n")
    ∷ (ascii "cipher=128\nrounds=256\nkey=\nway=open\nblock=0123456789ABCDEF\n", "refusal=2\n")
    ∷ (ascii "cipher=64\nrounds=12\nkey=" ++ zeros 33 ++ ascii "\nway=seal\nblock=\n", "refusal=3\n")
    ∷ (ascii "cipher=64\nrounds=255\nkey=" ++ zeros 64 ++ ascii "\nway=open\nblock=0123456789ABCDEF\n", "refusal=3\n")
    ∷ (ascii "cipher=64\nrounds=11\nkey=00112233\nway=seal\nblock=0123456789ABCDEF\n", "refusal=2\n")
    ∷ (ascii "cipher=64\nrounds=16\nkey=0011223344556677\nway=seal\nblock=0123456789ABCDEF\n", "refusal=13\n")
    ∷ (ascii "cipher=128\nrounds=12\nkey=" ++ zeros 15 ++ ascii "\nway=seal\nblock=\n", "refusal=13\n")
    ∷ (ascii "cipher=128\nrounds=12\nkey=" ++ zeros 16 ++ ascii "\nway=seal\nblock=\n", "refusal=4\n")
    ∷ (ascii "cipher=128\nrounds=12\nkey=" ++ zeros 15 ++ ascii "\nway=open\nblock=\n", "refusal=4\n")
    ∷ (ascii "cipher=64\nrounds=12\nkey=" ++ zeros 32 ++ ascii "\nway=seal\nblock=" ++ zeros 32 ++ ascii "\n", "refusal=4\n")
    ∷ (ascii "cipher=128\nrounds=255\nkey=\nway=open\nblock=0123456789ABCDEF\n", "refusal=4\n")
    ∷ []
