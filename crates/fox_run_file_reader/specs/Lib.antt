-- The reader as one value.
pub mod Reader
