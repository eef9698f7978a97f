-- The theorems on a tag with a prepared key.
pub mod ByPrepared
