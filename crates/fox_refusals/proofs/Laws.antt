-- Laws on the definitions, which proofs cite in place of a definition's text.
pub mod Refusals
pub mod Tests
pub mod Reply
