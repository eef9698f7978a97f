-- The definitions of the run file on a file of the customer's vectors, and its limits.
pub mod File
pub mod Limits
