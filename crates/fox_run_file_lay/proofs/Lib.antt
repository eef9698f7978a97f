-- The laws that the proofs of this crate, and of the crate above it, share.
pub mod Laws
