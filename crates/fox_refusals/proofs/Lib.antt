-- The laws of the refusals and the replies, for the proofs here and in the crates above.
pub mod Laws
pub mod Computed
