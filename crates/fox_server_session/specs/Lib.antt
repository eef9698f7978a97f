-- A session as one value.
pub mod Session
