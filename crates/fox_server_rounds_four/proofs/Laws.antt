-- Laws on the definitions, which proofs cite in place of a definition's text.
pub mod Wide
pub mod Each
pub mod Words
