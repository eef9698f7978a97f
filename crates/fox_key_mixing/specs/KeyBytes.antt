-- The bytes that the code's keys hold, from their words.
-- Assumes nothing.
unfoldable pub use Rattle.fox_bytes.specs.WordBytes.{word_bytes}
