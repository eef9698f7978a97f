-- The theorems on the exports on run files.
pub mod Exports
