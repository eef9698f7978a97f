-- The theorems on the exports on sessions, and the laws that the proofs of the functions take.
pub mod Laws
pub mod Exports
