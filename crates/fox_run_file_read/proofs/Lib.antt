-- The laws that the proofs of this crate share, and the theorem on scans read with a prepared key.
pub mod Laws
pub mod ByPrepared
