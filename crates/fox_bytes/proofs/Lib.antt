-- The laws of blocks of words, for the proofs here and in the crates above.
pub mod Laws
