-- Laws on the definitions, which proofs cite in place of a definition's text.
pub mod Blocks
pub mod Halves
pub mod Rounds
pub mod Skeleton
pub mod Undoing
