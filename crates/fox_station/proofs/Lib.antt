-- The theorems on the calls that C programs make.
pub mod Exports
