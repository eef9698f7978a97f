-- The laws of the definitions in specs/, for the proofs here and in the crates above, and the theorems on a block in parts.
pub mod Laws
pub mod Parts
