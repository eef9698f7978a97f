-- A session in its parts.
pub mod Step
