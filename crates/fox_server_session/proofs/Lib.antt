-- The laws that the proofs of this crate share, and the theorems on sessions with a prepared key.
pub mod Laws
pub mod ByPrepared
