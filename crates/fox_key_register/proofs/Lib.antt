-- The laws of the register, for the proofs here and in the crates above.
pub mod Laws
