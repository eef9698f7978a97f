-- Laws on the definitions, which proofs cite in place of a definition's text.
pub mod WordsInBytes
pub mod XorEach
pub mod WordBytes
