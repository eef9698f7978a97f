-- What writing a text into a buffer does: from a place on, and at its start.
-- Assumes nothing.
use Rattle.std.specs.Prelude.{◌≡◌, List, ℕ, ◌+◌, ◌≤◌, length, take}
use Rattle.std.proofs.lemmas.List.Edits.{sets}

-- the text is written from place `at` on, all else is as it was; r is the place after its last byte, at most `most` bytes further
pub record Put (most : ℕ) (text before after : List ℕ) (at r : ℕ) : Type 0 where
  pub place : r ≡ at + length text
  pub short : r ≤ at + most
  pub bytes : after ≡ sets before at text

-- the text is written at the start, and its length r is returned. The last three fields follow: the buffer's first r bytes can be passed by reference, and
-- are the text
pub record Stored (most : ℕ) (text before after : List ℕ) (r : ℕ) : Type 0 where
  pub count : r ≡ length text
  pub few : r ≤ most
  pub bytes : after ≡ sets before 0 text
  pub fits : r ≤ length after
  pub counts : r ≡ length (take r after)
  pub part : take r after ≡ text
