-- The laws of the definitions in specs/, for the proofs here and in the crates above, and the definitions at known values.
pub mod Laws
pub mod Computed
