-- Names of lines that several texts have.
-- Assumes nothing.
use Rattle.std.specs.Prelude.{ℕ, List}
use Rattle.fox_text.specs.Ascii.{ascii}

unfoldable pub cipher_name : List ℕ
cipher_name = ascii "cipher="

unfoldable pub rounds_name : List ℕ
rounds_name = ascii "rounds="
