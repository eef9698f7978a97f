-- A run file to compute the definitions on.
pub mod Example
