-- Laws on the definitions, which proofs cite in place of a definition's text.
pub mod Chain
pub mod Doubling
pub mod States
pub mod Parts
pub mod ByStates
pub mod Answers
