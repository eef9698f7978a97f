-- The laws of the definitions in specs/, and the theorems on runs.
pub mod Laws
pub mod Bytes
pub mod Runs
pub mod Stretches
pub mod Counters
pub mod Numbers
