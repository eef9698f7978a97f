-- The laws of the definitions in specs/, for the proofs here and in the crates above; the places of round keys, computed; and the theorems on what a round
-- key hands on.
pub mod Laws
pub mod Computed
pub mod Standing
