-- The tables passed by reference to the server engine's rounds: the shifted S-box (TBS) of a word of four bytes, for both ciphers, and the joined
-- S-box/diffusion tables (TBSM) of a matrix (001 §4.2.2).
-- Assumes nothing.
use Rattle.std.specs.Prelude.{◌≡◌, List, ℕ}
use Rattle.fox_layers.specs.Tables.{TBS, TBSM}

pub record TablesOf (rows : List (List ℕ)) (S T : List ℕ) : Type 0 where
  pub s : S ≡ TBS 4
  pub t : T ≡ TBSM rows
