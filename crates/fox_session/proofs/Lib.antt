-- The theorems on sessions, and the laws that the proofs of their calls share.
pub mod Laws
pub mod Lists
pub mod Stretches
pub mod Computed
